-- Alternatives in lists are accepted exactly if the lists are shaped, the codes are known and the operands are trees.
--   operands_tests                   operands are boolean expressions
--   accepted_short                   K is at most 16
--   accepted_shape                   so the lists have the shape that matching asks for
--   accepted_shaped, shaped_accepted
--   operand_long, operand_none, operand_start, operand_is    one operand, of which the last 256 bytes tell
use mathlib.Core.Path.{◌≡◌, refl, sym, ◌∙◌}
use mathlib.Core.Bool.{Bool, true, false, ◌||◌}
use mathlib.Core.List.{List}
use Prim.Native.Nat.{ℕ, ◌+◌, ◌-◌, ◌<◌, ◌≤◌}
use native.Mathlib.Omega.{arith}
use lib.Dec.{ltb}
use lib.ListN.{length, take, drop}
use borrow.Author.Tests.{ltb-false, le-ltb}
use Rattle.alf.specs.declared.Sort.TheVariants as sort
use Rattle.basics.specs.Words.{greatest_of}
use Rattle.alf.specs.Expressions.{boolean, vector}
use Rattle.alf.specs.Decoder.{Stack, empty, broken, push, is_boolean}
use Rattle.alf.specs.Alternatives.{Alternative, over_limit}
use Rattle.alf.specs.Alternatives as alternatives
use Rattle.basics.proofs.Bools.{never, or_left, or_right}
use Rattle.trees.specs.Parts.{EndsBoolean, Start}
use Rattle.std.specs.Prelude.{Some, None}
use Rattle.alf.specs.Decoder.{stack_at}
use Rattle.trees.specs.declared.sorts.Part.{Part}
use Rattle.trees.specs.Sorts.{kind_of, Ending}
use Rattle.trees.proofs.Endings.{ending_from, ending_none}
use Rattle.trees.proofs.Starts.{start_unique}
use Rattle.alf.specs.Values.{old_rules_lem}
use Rattle.acceptance.specs.Accepted.{Accepted}
use Rattle.basics.specs.Deciding.{Decides}
use Rattle.alternatives.specs.InMemory.{cut, sum, tests_of, alternatives_of_lem, Tests, Shape}
use Rattle.alternatives.proofs.Cuts.{cut_length, tests_length}
use Rattle.alternatives.specs.InMemory.{longest_of}
use Rattle.alternatives.proofs.Longest.{longest_is}
use Rattle.basics.proofs.Deciding.{same_decided}
use Rattle.listed_acceptance.specs.Lists.{Each, Operand, Known, AcceptedAlternatives, Shaped}
use Rattle.listed_acceptance.proofs.Alone.{part_length, alone, part_inside}
use Rattle.listed_acceptance.proofs.Sums.{tests_are, greatest_each, each_greatest}

or_both : (p q : Bool) → p ≡ false → q ≡ false → (p || q) ≡ false
or_both true q h k = h
or_both false q h k = k

module _ (xs : List Alternative) where
  few_of : over_limit xs ≡ false → length xs ≤ 64
  unfolding over_limit
  few_of h = ltb-false 64 _ (or_left _ _ h)

  short_of : over_limit xs ≡ false → greatest_of length xs ≤ 16
  unfolding over_limit
  short_of h = ltb-false 16 _ (or_left _ _ (or_right (ltb 64 (length xs)) _ h))

  light_of : over_limit xs ≡ false → greatest_of alternatives.tests xs ≤ 64
  unfolding over_limit
  light_of h =
      ltb-false 64 _ (or_right (ltb 16 (greatest_of length xs)) _ (or_right (ltb 64 (length xs)) _ h))

  within_of : length xs ≤ 64 → greatest_of length xs ≤ 16 → greatest_of alternatives.tests xs ≤ 64
      → over_limit xs ≡ false
  unfolding over_limit
  within_of a b c = or_both _ _ (le-ltb _ _ a) (or_both _ _ (le-ltb _ _ b) (le-ltb _ _ c))

module _ (names : ℕ) (tree steps tests edges operands : List ℕ) where
  abbrev xs : List Alternative
  xs = alternatives_of_lem tree names steps tests edges operands

  as_many : length xs ≡ length steps
  unfolding alternatives_of_lem
  as_many = cut_length steps _

  module _ (same : length operands ≡ length edges) (o : Each (Operand tree names) operands) where
    operands_tests : Tests tree names edges operands
    operands_tests = record { enough = omega arith; boolean = λ k l. (o k (omega arith)).ends }

    module _ (few : length steps ≤ 64) (s : sum steps ≡ length tests) (t : sum tests ≡ length edges) where
      shape : Shape tree names steps tests edges operands
      shape = record { few = few; enough_steps = omega arith; enough_tests = omega arith; known = operands_tests }

      most_tests : greatest_of alternatives.tests xs ≡ greatest_of sum (cut steps tests)
      unfolding alternatives_of_lem
      most_tests =
          let e = tests_length tree names edges operands (omega arith) in
          tests_are steps tests (tests_of tree names edges operands) (omega arith)

      longest : greatest_of length xs ≡ greatest_of (λ n. n) steps
      longest = sym (longest_is shape)

  pub accepted_shape : AcceptedAlternatives names tree steps tests edges operands
      → Shape tree names steps tests edges operands
  accepted_shape a =
      let few = few_of xs a.within in
      shape a.all_operands a.operand (omega (arith, as_many)) a.all_steps a.all_tests_lem

  pub accepted_short : AcceptedAlternatives names tree steps tests edges operands
      → longest_of (alternatives_of_lem tree names steps tests edges operands) ≤ 16
  accepted_short a = short_of xs a.within

  pub accepted_shaped : AcceptedAlternatives names tree steps tests edges operands
      → Shaped steps tests (length edges) (length operands)
  accepted_shaped a =
      let few : length steps ≤ 64 = omega (arith, few_of xs a.within, as_many) in
      let e = longest a.all_operands a.operand few a.all_steps a.all_tests_lem in
      let d = most_tests a.all_operands a.operand few a.all_steps a.all_tests_lem in
      record {
        some = a.some;
        few = few;
        all_operands = a.all_operands;
        stepped = λ k l. record {
          some = a.stepped k l;
          few = omega (arith, short_of xs a.within, e, each_greatest steps k l);
        };
        all_steps = a.all_steps;
        all_tests_lem = a.all_tests_lem;
        light = omega (arith, light_of xs a.within, d);
      }

  pub shaped_accepted : Shaped steps tests (length edges) (length operands) → Each Known edges
      → Each (Operand tree names) operands → AcceptedAlternatives names tree steps tests edges operands
  shaped_accepted s k o =
      let e = longest s.all_operands o s.few s.all_steps s.all_tests_lem in
      let d = most_tests s.all_operands o s.few s.all_steps s.all_tests_lem in
      let g = greatest_each 16 steps (λ i l. (s.stepped i l).few) in
      record {
        all_steps = s.all_steps;
        all_tests_lem = s.all_tests_lem;
        all_operands = s.all_operands;
        within = within_of xs (omega (arith, as_many, s.few)) (omega (arith, e, g)) (omega (arith, d, s.light));
        some = s.some;
        stepped = λ i l. (s.stepped i l).some;
        known = k;
        operand = o;
      }

-- one operand
boolean_kind : (s : Stack) → is_boolean s ≡ true → kind_of s ≡ Some sort.Boolean
unfolding is_boolean kind_of
boolean_kind empty h = never h
boolean_kind broken h = never h
boolean_kind (push (boolean c) s) h = refl
boolean_kind (push (vector p) s) h = never h

pub operand_start : {t : List ℕ} {names end : ℕ} {p : Part} → Ending t names end (Some p) → p.start < end
operand_start e = (ending_from e).before

module _ (tree : List ℕ) (names end : ℕ) where
  pub operand_long : length tree < end → Decides false (Operand tree names end)
  unfolding Decides
  operand_long h = λ o. omega (arith, h, o.ends.within)

  -- an operand lies in the last 256 bytes before `end`, and is an operand there too
  module _ {low : ℕ} (lower : low ≡ end - 256) (l : end ≤ length tree) where
    abbrev tail : List ℕ
    tail = take (end - low) (drop low tree)

    operand_near : (o : Operand tree names end) → low ≤ o.start
    operand_near o =
        let b = o.from.before in
        omega (arith, o.accepted.tokens, part_length tree names end o.start l (omega arith))

    operand_inside : (o : Operand tree names end)
        → EndsBoolean tail names (end - low) × Start tail names (end - low) (o.start - low)
    operand_inside o =
        let b = o.from.before in
        let n = operand_near o in
        alone tail names (end - low) (o.start - low)
        (omega (arith, part_length tree names end low l (omega arith))) (omega arith)
        (rw (part_inside tree end low o.start l n (omega arith)) o.accepted)

    operand_kind : Operand tree names end → kind_of (stack_at tail names (end - low)) ≡ Some sort.Boolean
    operand_kind o = boolean_kind _ (operand_inside o).0.whole

    pub operand_none : Ending tail names (end - low) None → Decides false (Operand tree names end)
    unfolding Decides
    operand_none e = λ o. let k = sym (ending_none e) ∙ operand_kind o in cc

    module _ {p : Part} (e : Ending tail names (end - low) (Some p)) where
      operand_same : (o : Operand tree names end) → o.start ≡ low + p.start
      operand_same o =
          let q = start_unique (operand_inside o).1 (ending_from e) in
          omega (arith, operand_near o)

      pub operand_is : (r : Bool)
          → Decides r
          (Accepted old_rules_lem names sort.Boolean (take (end - (low + p.start)) (drop (low + p.start) tree)))
          → Decides r (Operand tree names end)
      operand_is r =
          same_decided
          (Accepted old_rules_lem names sort.Boolean (take (end - (low + p.start)) (drop (low + p.start) tree)))
          (Operand tree names end) r
          (λ a.
          let s = operand_start e in
          let (w, f) = alone tree names end (low + p.start) l (omega arith) a in
          record { ends = w; start = low + p.start; from = f; accepted = a })
          (λ o. rw (operand_same o) at o.accepted)
