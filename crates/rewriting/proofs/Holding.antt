-- The lists of a tree by value: what their fronts are, that they have the shape and stand for the alternatives, and
-- that the whole value follows from the tree.
--   step_entries, test_entries, edge_entries, operand_entries    how many entries each list has
--   front_taken                     the front of a list that is laid over another
--   found_ready                     a tree with the pins that are found
--   arrays_fillable                 arrays have room for any tree that is accepted
--   meant_number, meant_same        places instead of operands
--   holds                           what is filled, as long as the counts say, holds the alternatives
--   holds_number                    how many alternatives there are
--   steps_within, tests_within, edges_within, operands_within    what is in use stands in the arrays
--   stand_for                       so do the lists that are lent
--   holds_unique                    two such values of a tree are equal
use Prim.Native.Nat.{ℕ, ◌≤◌}
use native.Mathlib.Omega.{arith}
use mathlib.Core.Path.{◌≡◌, refl, ap, sym, ◌∙◌}
use mathlib.Core.List.{List, map}
use lib.ListN.{length, take, drop, replicate, length-append, length-map}
use lib.Seq.{take_at, length-take-le}
use Rattle.alf.specs.Expressions.{name, literal, Vector}
use Rattle.alf.specs.Alternatives.{Alternative, alternatives}
use Rattle.alf.specs.Steady.{meant}
use Rattle.alf.specs.declared.Rules.{Rules}
use Rattle.alf.specs.declared.Sort.TheVariants as sort
use Rattle.acceptance.specs.Accepted.{Accepted}
use Rattle.acceptance.proofs.Acceptance.{accepted_vector, accepted_tree}
use Rattle.alternatives.specs.declared.lists.Lists.{Lists}
use Rattle.rewriting.specs.declared.lists.Alternatives.{Alternatives}
use Rattle.steady_pins.specs.Finding.{pins_of}
use Rattle.steady_pins.proofs.Found.{found_means}
use Rattle.steady_pins.proofs.PinnedAlternatives.{placed_number}
use Rattle.step_tests.proofs.Exchanging.{alternative_on, placed_same}
use Rattle.trees.specs.Parts.{vector_at, boolean_at}
use Rattle.step_tests.specs.OperandPlaces.{edge_of, end_of}
use Rattle.rewriting.specs.Lists.{joined, alternatives_at, step_list, test_list, edge_list, operand_list}
use Rattle.rewriting.specs.Lists.{Ready, Long, Filled, Fillable, InUse, Holds}
use Rattle.rewriting.specs.Lists.{Lends, StandFor}
use Rattle.rewriting.proofs.Bounds.{ready_pins, ready_bounded, few_steps, few_tests}
use Rattle.rewriting.proofs.Meaning.{lists_stand, lists_shape}
use Rattle.alternatives.specs.InMemory.{alternatives_of_lem}
use Rattle.alternatives.proofs.Cuts.{cut_length}
use Rattle.basics.specs.Memory.{front}

-- how many entries each list has
module _ (xs : List Alternative) where
  pub step_entries : length (step_list xs) ≡ length xs
  unfolding step_list
  step_entries = length-map xs length

  pub test_entries : length (test_list xs) ≡ length (joined xs)
  unfolding test_list
  test_entries = length-map (joined xs) length

  pub edge_entries : length (edge_list xs) ≡ length (joined (joined xs))
  unfolding edge_list
  edge_entries = length-map (joined (joined xs)) edge_of

  pub operand_entries : length (operand_list xs) ≡ length (joined (joined xs))
  unfolding operand_list
  operand_entries = length-map (joined (joined xs)) end_of

-- the front of a list that is laid over another
pub front_taken : (w out : List ℕ) {l : List ℕ} {n : ℕ} → l ≡ front w out → n ≡ length w → take n l ≡ w
front_taken w out {n = n} e k = ap (take n) e ∙ take_at w _ n (sym k)

in_use : (w out : List ℕ) {l : List ℕ} {n : ℕ} → l ≡ front w out → n ≡ length w → InUse n l
in_use w out {l} {n} e k =
    let d = ap length e ∙ length-append w (drop (length w) out) in
    let h : n ≤ length l = omega arith in
    record { within = h; many = sym (length-take-le n l h) }

-- arrays have room
pub arrays_fillable : {pins tree : List ℕ} {names : ℕ} {steps tests edges operands : List ℕ}
    → Ready pins tree names
    → length steps ≡ 64 → length tests ≡ 1024 → length edges ≡ 4096 → length operands ≡ 4096
    → Fillable pins tree names steps tests edges operands
arrays_fillable {pins} {tree} {names} a e d f g =
    let b = ready_bounded pins tree names a in
    record {
      ready = a;
      steps_room = omega (arith, b.few);
      tests_room = omega (arith, few_steps b);
      edges_room = omega (arith, few_tests b);
      operands_room = omega (arith, few_tests b);
    }

-- with the pins that are found
pub found_ready : {ρ : Rules} {pins tree : List ℕ} {names : ℕ} → Accepted ρ names sort.Vector tree
    → pins ≡ pins_of ρ tree names (length tree) → Ready pins tree names
found_ready {ρ} a e = record { rules = ρ; accepted = a; found = e }

module _ (ρ : Rules) (tree : List ℕ) (names : ℕ) (a : Accepted ρ names sort.Vector tree) (v : Alternatives)
    (l : Long (alternatives_at ρ tree names) v.count v.step_count v.test_count)
    (f : Filled (alternatives_at ρ tree names) (replicate 64 0) (replicate 1024 0) (replicate 4096 0) (replicate 4096 0)
    v.steps v.tests v.edges v.operands) where
  abbrev xs : List Alternative
  xs = alternatives_at ρ tree names

  count_is : v.count ≡ length (step_list xs)
  count_is = l.alternatives_are ∙ sym (step_entries xs)

  step_count_is : v.step_count ≡ length (test_list xs)
  step_count_is = l.steps_are ∙ sym (test_entries xs)

  edge_count_is : v.test_count ≡ length (edge_list xs)
  edge_count_is = l.tests_are ∙ sym (edge_entries xs)

  operand_count_is : v.test_count ≡ length (operand_list xs)
  operand_count_is = l.tests_are ∙ sym (operand_entries xs)

  steps_front : take v.count v.steps ≡ step_list xs
  steps_front = front_taken (step_list xs) (replicate 64 0) f.steps_are count_is

  tests_front : take v.step_count v.tests ≡ test_list xs
  tests_front = front_taken (test_list xs) (replicate 1024 0) f.tests_are step_count_is

  edges_front : take v.test_count v.edges ≡ edge_list xs
  edges_front = front_taken (edge_list xs) (replicate 4096 0) f.edges_are edge_count_is

  operands_front : take v.test_count v.operands ≡ operand_list xs
  operands_front = front_taken (operand_list xs) (replicate 4096 0) f.operands_are operand_count_is

  ready : Ready (pins_of ρ tree names (length tree)) tree names
  ready = found_ready a refl

  pub holds : Holds ρ tree names v
  holds =
      let b = ready_bounded _ tree names ready in
      let h = accepted_vector tree names a in
      let k = ready_pins ready in
      record {
        long = l;
        filled = f;
        steps_used = in_use (step_list xs) (replicate 64 0) f.steps_are count_is;
        tests_used = in_use (test_list xs) (replicate 1024 0) f.tests_are step_count_is;
        edges_used = in_use (edge_list xs) (replicate 4096 0) f.edges_are edge_count_is;
        operands_used = in_use (operand_list xs) (replicate 4096 0) f.operands_are operand_count_is;
        shape = rw (steps_front, tests_front, edges_front, operands_front) (lists_shape tree names h _ k b.few);
        stands = rw (steps_front, tests_front, edges_front, operands_front)
            (lists_stand tree names h _ k ∙ ap alternatives (found_means ρ (accepted_tree tree names a)));
      }

-- operands as places change neither how many alternatives there are nor anything but the operands
module _ {ρ : Rules} {tree : List ℕ} {names : ℕ} (a : Accepted ρ names sort.Vector tree) where
  abbrev meant_ones : List Alternative
  meant_ones = alternatives (meant ρ (vector_at tree names (length tree)))

  pub meant_number : length (alternatives_at ρ tree names) ≡ length meant_ones
  meant_number =
      placed_number name _ (length tree) _
      ∙ sym (placed_number (boolean_at tree names) (pins_of ρ tree names (length tree)) (length tree) _)
      ∙ ap (λ (p : Vector). length (alternatives p)) (found_means ρ (accepted_tree tree names a))

  pub meant_same : map (alternative_on (λ e. e) (λ c. literal 0)) (alternatives_at ρ tree names)
      ≡ map (alternative_on (λ e. e) (λ c. literal 0)) meant_ones
  meant_same =
      placed_same name (boolean_at tree names) (pins_of ρ tree names (length tree)) (length tree) _
      ∙ ap (λ (p : Vector). map (alternative_on (λ e. e) (λ c. literal 0)) (alternatives p))
      (found_means ρ (accepted_tree tree names a))

-- what is in use stands in the arrays
module _ {ρ : Rules} {tree : List ℕ} {names : ℕ} {v : Alternatives} (h : Holds ρ tree names v) where
  -- as many as the expression has as the rules read it
  pub holds_number : v.count ≡ length (alternatives (meant ρ (vector_at tree names (length tree))))
  unfolding alternatives_of_lem
  holds_number =
      h.steps_used.many ∙ sym (cut_length (take v.count v.steps) _) ∙ ap length h.stands

  pub stand_for : {l : Lists} → Lends v l → StandFor ρ tree names l
  stand_for e =
      record {
        shape = rw (e.steps_are, e.tests_are, e.edges_are, e.operands_are) h.shape;
        stands = rw (e.steps_are, e.tests_are, e.edges_are, e.operands_are) h.stands;
      }

  pub steps_within : v.count ≤ length v.steps
  steps_within = h.steps_used.within

  pub tests_within : v.step_count ≤ length v.tests
  tests_within = h.tests_used.within

  pub edges_within : v.test_count ≤ length v.edges
  edges_within = h.edges_used.within

  pub operands_within : v.test_count ≤ length v.operands
  operands_within = h.operands_used.within

pub holds_unique : (ρ : Rules) (tree : List ℕ) (names : ℕ) (v w : Alternatives) → Holds ρ tree names v
    → Holds ρ tree names w
    → v ≡ w
holds_unique ρ tree names v w h k =
    let count = h.long.alternatives_are ∙ sym k.long.alternatives_are in
    let step_counts = h.long.steps_are ∙ sym k.long.steps_are in
    let test_counts = h.long.tests_are ∙ sym k.long.tests_are in
    let steps = h.filled.steps_are ∙ sym k.filled.steps_are in
    let tests = h.filled.tests_are ∙ sym k.filled.tests_are in
    let edges = h.filled.edges_are ∙ sym k.filled.edges_are in
    let operands = h.filled.operands_are ∙ sym k.filled.operands_are in
    λ i. record {
      count = count i;
      step_count = step_counts i;
      test_count = test_counts i;
      steps = steps i;
      tests = tests i;
      edges = edges i;
      operands = operands i;
    }
