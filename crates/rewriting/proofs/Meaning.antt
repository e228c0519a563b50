-- The lists of a tree stand for the alternatives of its expression, in order, and have the shape that matching asks
-- for. Main names: alternatives_back, lists_stand, lists_shape.
use Prim.Native.Nat.{ℕ, zero, suc, ◌≤◌, ◌<◌}
use native.Mathlib.Omega.{arith}
use mathlib.Core.Path.{◌≡◌, refl, ap, ap₂, sym, ◌∙◌}
use mathlib.Core.List.{List, [], ◌∷◌, map}
use lib.ListN.{length, get_or, length-map}
use Rattle.alf.specs.Expressions.{the, pair}
use Rattle.alf.specs.Bytes.{edge_number, half_number}
use Rattle.alf.specs.Decoder.{edge_at, half_at}
use Rattle.alf.specs.Alternatives.{Test, test, Step, Alternative, alternatives}
use Rattle.basics.proofs.AllEntries.{All, none, more}
use Rattle.trees.specs.Parts.{EndsBoolean, EndsVector, vector_at, boolean_at}
use Rattle.steady_pins.specs.Pinned.{by_places, Pins}
use Rattle.alternatives.specs.InMemory.{cut, tests_of, alternatives_of_lem, Shape}
use Rattle.step_tests.specs.OperandPlaces.{edge_of, end_of, numbers, ends}
use Rattle.rewriting.specs.Lists.{joined, alternatives_by, step_list, test_list, edge_list, operand_list}
use Rattle.step_tests.proofs.Exchanging.{test_on, alternative_on, alternatives_on}
use Rattle.rewriting.proofs.Joining.{joined_map, cut_joined, lengths_map, lengths_sum}
use Rattle.step_tests.proofs.Places.{edge_back, operand_back, Known, stands}
use Rattle.rewriting.proofs.Asking.{Asks, asks, alternatives_ask, all_joined}

-- tests that are exchanged one by one are cut as those that they stand for
cut_exchanged : (h : Test → Test) (xs : List Alternative)
    → cut (map length xs) (cut (map length (joined xs)) (map h (joined (joined xs)))) ≡ map (map (map h)) xs
cut_exchanged h xs =
    ap (cut (map length xs))
    (ap₂ cut (sym (lengths_map h (joined xs))) (sym (joined_map h (joined xs)))
    ∙ cut_joined (map (map h) (joined xs)) ∙ sym (joined_map (map h) xs))
    ∙ ap (λ (ns : List ℕ). cut ns (joined (map (map (map h)) xs))) (sym (lengths_map (map h) xs))
    ∙ cut_joined (map (map (map h)) xs)

-- the edge `11` by its number
held_back : edge_back (pair (the 1) (the 1)) ≡ pair (the 1) (the 1)
unfolding edge_number half_number edge_at half_at
held_back = refl

module _ (tree : List ℕ) (names : ℕ) where
  tests_back : (ts : Step) → tests_of tree names (numbers ts) (ends ts)
      ≡ map (test_on edge_back (operand_back tree names)) ts
  unfolding tests_of test_on edge_of end_of
  tests_back [] = refl
  tests_back (test e c ∷ ts) = ap (◌∷◌ (test (edge_back e) (operand_back tree names c))) (tests_back ts)

  known_at : {ts : Step} → All (Asks (Known tree names)) ts → (k : ℕ) → k < length (numbers ts)
      → EndsBoolean tree names (get_or (ends ts) k 0)
  unfolding end_of
  known_at none k l = absurd (omega arith)
  known_at (more (asks h) s) zero l = h
  known_at (more h s) (suc k) l = known_at s k (omega arith)

  module _ (h : EndsVector tree names (length tree)) (pins : List ℕ) (k : Pins tree names pins) where
    abbrev xs : List Alternative
    xs = alternatives_by pins tree names

    -- with the pins, as they are read
    abbrev own : List Alternative
    own = alternatives (by_places (boolean_at tree names) pins (length tree) (vector_at tree names (length tree)))

    pub alternatives_back : map (alternative_on edge_back (operand_back tree names)) xs ≡ own
    alternatives_back =
        sym (alternatives_on edge_back (operand_back tree names) held_back _)
        ∙ ap alternatives (stands tree names pins k (length tree) h).back

    pub lists_stand : alternatives_of_lem tree names (step_list xs) (test_list xs) (edge_list xs) (operand_list xs)
        ≡ own
    unfolding alternatives_of_lem step_list test_list edge_list operand_list
    lists_stand =
        ap (λ (ts : List Test). cut (map length xs) (cut (map length (joined xs)) ts))
        (tests_back (joined (joined xs)))
        ∙ cut_exchanged (test_on edge_back (operand_back tree names)) xs
        ∙ alternatives_back

    pub lists_shape : length xs ≤ 64
        → Shape tree names (step_list xs) (test_list xs) (edge_list xs) (operand_list xs)
    unfolding step_list test_list edge_list operand_list
    lists_shape l =
        let e = (stands tree names pins k (length tree) h).each in
        let a = all_joined (all_joined (alternatives_ask (Known tree names) e)) in
        let n = length-map (joined (joined xs)) edge_of in
        let m = length-map (joined (joined xs)) end_of in
        record {
          few = omega (arith, length-map xs length);
          enough_steps = omega (arith, lengths_sum xs, length-map (joined xs) length);
          enough_tests = omega (arith, lengths_sum (joined xs));
          known = record { enough = omega arith; boolean = known_at a };
        }
