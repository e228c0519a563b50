-- Limit 8, for the alternatives of an accepted tree with their operands as places: at most 64, of at most 16 steps and
-- 64 tests each; so the lists have at most 64, 1,024 and 4,096 entries.
-- Main names: accepted_limited, Bounded, few_steps, few_tests; ready_ends, ready_pins, ready_means, ready_bounded,
-- shape_exact, count_exact, ready_chosen, ready_shaping, ready_pinned, ready_short.
use Prim.Native.Nat.{ℕ, zero, suc, ◌+◌, ◌*◌, ◌<◌, ◌≤◌, min}
use native.Mathlib.Omega.{arith}
use native.Mathlib.Nat.{suc-mul}
use mathlib.Core.Path.{◌≡◌, refl, ap, sym, ◌∙◌}
use mathlib.Core.Bool.{Bool, true, false}
use mathlib.Core.List.{List, [], ◌∷◌, map}
use lib.Dec.{ltb}
use lib.ListN.{length, get_or, length-append, length-map}
use borrow.Author.Tests.{ltb-false}
use Rattle.basics.specs.Words.{greatest_of, sum_of}
use Rattle.alf.specs.Expressions.{name, Expression, boolean, vector}
use Rattle.alf.specs.Decoder.{top_vector, Decodes}
use Rattle.alf.specs.Alternatives.{Test, Alternative, alternatives, tests, number_of_alternatives, steps_of, over_limit}
use Rattle.alf.specs.declared.Sort.{Sort}
use Rattle.alf.specs.declared.Sort.TheVariants as sort
use Rattle.basics.proofs.Bools.{never, or_left, or_right}
use Rattle.alf.specs.Steady.{meant}
use Rattle.alf.specs.declared.Rules.{Rules}
use Rattle.trees.specs.Parts.{EndsVector, vector_at, boolean_at}
use Rattle.steady_pins.specs.Pinned.{by_places, Pins}
use Rattle.steady_pins.proofs.PinnedAlternatives.{placed_number, placed_length}
use Rattle.steady_pins.proofs.Found.{found_means, found_pins}
use Rattle.acceptance.specs.Accepted.{sort_of_lem, over_size, Accepted, Limited}
use Rattle.acceptance.specs.Sizes.{Chosen, Shaping, ShapedAt, PinnedTree}
use Rattle.acceptance.proofs.Acceptance.{accepted_vector, accepted_tree, accepted_decodes}
use Rattle.rewriting.specs.Lists.{joined, alternatives_by, alternative_of, Ready}
use Rattle.step_tests.proofs.Exchanging.{test_on}
use Rattle.rewriting.proofs.Joining.{joined_append, joined_map}
use Rattle.step_tests.proofs.Places.{edge_back, operand_back}
use Rattle.rewriting.proofs.Meaning.{alternatives_back}

is_vector_sort : Sort → Bool
is_vector_sort sort.Boolean = false
is_vector_sort sort.Vector = true

pub accepted_limited : {ρ : Rules} (t : List ℕ) (names : ℕ) → Accepted ρ names sort.Vector t → Limited ρ t names
unfolding Decodes top_vector sort_of_lem over_size is_vector_sort
accepted_limited {ρ} t names a = go a.expression (accepted_decodes a) a.sorted a.sized
  where
    go : (e : Expression) → Decodes names t e → sort_of_lem e ≡ sort.Vector → over_size ρ e ≡ false
        → Limited ρ t names
    go (boolean c) d k l = never (ap is_vector_sort k)
    go (vector p) d k l = rw d l

-- no alternative exceeds the greatest
greatest_at : (f : Alternative → ℕ) → f [] ≡ 0 → (xs : List Alternative) (t : ℕ)
    → f (get_or xs t []) ≤ greatest_of f xs
unfolding greatest_of
greatest_at f z [] t = omega arith
greatest_at f z (x ∷ xs) zero = omega arith
greatest_at f z (x ∷ xs) (suc t) = let e = greatest_at f z xs t in omega arith

tests_joined : (x : Alternative) → tests x ≡ length (joined x)
unfolding tests sum_of joined
tests_joined [] = refl
tests_joined (s ∷ x) = ap (◌+◌ (length s)) (tests_joined x) ∙ sym (length-append s (joined x))

exchanged_at : (h : Test → Test) (xs : List Alternative) (t : ℕ)
    → get_or (map (map (map h)) xs) t [] ≡ map (map h) (get_or xs t [])
exchanged_at h [] t = refl
exchanged_at h (x ∷ xs) zero = refl
exchanged_at h (x ∷ xs) (suc t) = exchanged_at h xs t

exchanged_tests : (h : Test → Test) (x : Alternative) → tests (map (map h) x) ≡ length (joined x)
exchanged_tests h x = tests_joined (map (map h) x) ∙ ap length (joined_map h x) ∙ length-map (joined x) h

pub record Bounded (xs : List Alternative) : Type 0 where
  pub few : length xs ≤ 64
  pub short : (t : ℕ) → length (get_or xs t []) ≤ 16
  pub light : (t : ℕ) → length (joined (get_or xs t [])) ≤ 64

module _ (ys : List Alternative) (h : over_limit ys ≡ false) where
  few_of : length ys ≤ 64
  unfolding over_limit
  few_of = ltb-false 64 _ (or_left _ _ h)

  short_of : greatest_of length ys ≤ 16
  unfolding over_limit
  short_of = ltb-false 16 _ (or_left _ _ (or_right (ltb 64 (length ys)) _ h))

  light_of : greatest_of tests ys ≤ 64
  unfolding over_limit
  light_of =
      ltb-false 64 _ (or_right (ltb 16 (greatest_of length ys)) _ (or_right (ltb 64 (length ys)) _ h))

exchanged_bounded : (h : Test → Test) (xs : List Alternative) → over_limit (map (map (map h)) xs) ≡ false
    → Bounded xs
unfolding tests sum_of
exchanged_bounded h xs e =
    let f = few_of (map (map (map h)) xs) e in
    let s = short_of (map (map (map h)) xs) e in
    let l = light_of (map (map (map h)) xs) e in
    record {
      few = omega (arith, length-map xs (map (map h)));
      short = λ t.
          let u = greatest_at length refl (map (map (map h)) xs) t in
          let v = ap length (exchanged_at h xs t) ∙ length-map (get_or xs t []) (map h) in
          omega arith;
      light = λ t.
          let u = greatest_at tests refl (map (map (map h)) xs) t in
          let v = ap tests (exchanged_at h xs t) ∙ exchanged_tests h (get_or xs t []) in
          omega arith;
    }

-- all together
few_joined : {A : Type 0} (k : ℕ) (xs : List (List A)) → ((t : ℕ) → length (get_or xs t []) ≤ k)
    → length (joined xs) ≤ length xs * k
unfolding joined
few_joined k [] h = omega arith
few_joined k (x ∷ xs) h =
    let e = few_joined k xs (λ t. h (suc t)) in
    omega (arith, h zero, length-append x (joined xs), suc-mul (length xs) k)

pub few_steps : {xs : List Alternative} → Bounded xs → length (joined xs) ≤ 1024
few_steps {xs} b = let e = few_joined 16 xs b.short in omega (arith, b.few)

few_tested : (xs : List Alternative) → ((t : ℕ) → length (joined (get_or xs t [])) ≤ 64)
    → length (joined (joined xs)) ≤ length xs * 64
unfolding joined
few_tested [] h = omega arith
few_tested (x ∷ xs) h =
    let e = few_tested xs (λ t. h (suc t)) in
    let d = ap length (joined_append x (joined xs)) ∙ length-append (joined x) (joined (joined xs)) in
    omega (arith, h zero)

pub few_tests : {xs : List Alternative} → Bounded xs → length (joined (joined xs)) ≤ 4096
few_tests {xs} b = let e = few_tested xs b.light in omega (arith, b.few)

-- the pins that are found, and what is read with them
module _ {pins tree : List ℕ} {names : ℕ} (a : Ready pins tree names) where
  pub ready_ends : EndsVector tree names (length tree)
  ready_ends = accepted_vector tree names a.accepted

  pub ready_pins : Pins tree names pins
  ready_pins = rw a.found (found_pins a.rules (accepted_tree tree names a.accepted))

  pub ready_means : by_places (boolean_at tree names) pins (length tree) (vector_at tree names (length tree))
      ≡ meant a.rules (vector_at tree names (length tree))
  ready_means = rw a.found (found_means a.rules (accepted_tree tree names a.accepted))

module _ (pins tree : List ℕ) (names : ℕ) (a : Ready pins tree names) where
  abbrev h : Test → Test
  h = test_on edge_back (operand_back tree names)

  abbrev own : List Alternative
  own = alternatives (meant a.rules (vector_at tree names (length tree)))

  back : map (map (map h)) (alternatives_by pins tree names) ≡ own
  back = alternatives_back tree names (ready_ends a) pins (ready_pins a) ∙ ap alternatives (ready_means a)

  pub ready_bounded : Bounded (alternatives_by pins tree names)
  ready_bounded =
      exchanged_bounded h (alternatives_by pins tree names) (rw back (accepted_limited tree names a.accepted))

  -- so what is counted for an alternative is exact
  pub shape_exact : (t : ℕ) {s n : ℕ} → ShapedAt pins tree names (length tree) t s n
      → (s ≡ length (alternative_of pins tree names t)) × (n ≡ length (joined (alternative_of pins tree names t)))
  shape_exact t g =
      let k = ready_bounded in
      let v = tests_joined (alternative_of pins tree names t) in
      (omega (arith, (g.given name).steps_is, k.short t), omega (arith, (g.given name).tests_is, k.light t))

  number : number_of_alternatives (vector_at tree names (length tree)) ≡ length (alternatives_by pins tree names)
  unfolding number_of_alternatives
  number = sym (placed_number name pins (length tree) (vector_at tree names (length tree)))

  pub count_exact : {n : ℕ} → n ≡ min 65 (number_of_alternatives (vector_at tree names (length tree)))
      → n ≡ length (alternatives_by pins tree names)
  count_exact e = omega (arith, number, ready_bounded.few)

  pub ready_chosen : {t : ℕ} → t < length (alternatives_by pins tree names) → Chosen tree names (length tree) t
  ready_chosen l =
      record {
        ends = ready_ends a;
        there = omega (arith, number);
        few = omega (arith, number, ready_bounded.few);
      }

  pub ready_shaping : {t : ℕ} → t < length (alternatives_by pins tree names) → Shaping pins tree names (length tree) t
  ready_shaping l = record { chosen = ready_chosen l; small = a.accepted.tokens; long = (ready_pins a).long }

  pub ready_pinned : PinnedTree pins tree names (length tree)
  ready_pinned = record { ends = ready_ends a; small = a.accepted.tokens; long = (ready_pins a).long }

  -- a pin adds no step
  short_all : (xs : List Alternative) → ((t : ℕ) → length (get_or xs t []) ≤ 16) → greatest_of length xs ≤ 16
  unfolding greatest_of
  short_all [] k = omega arith
  short_all (x ∷ xs) k = let e = short_all xs (λ t. k (suc t)) in omega (arith, k zero)

  pub ready_short : steps_of (vector_at tree names (length tree)) ≤ 64
  unfolding steps_of
  ready_short =
      let e = short_all (alternatives (vector_at tree names (length tree)))
      (λ t. rw (← placed_length name pins (length tree) (vector_at tree names (length tree)) t) (ready_bounded.short t))
      in
      omega arith
