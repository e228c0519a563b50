-- The lists of an accepted tree are accepted.
--   mapped_each          what holds of each entry holds of each number made of one
--   edge_known           no number of an edge is above 82
--   lists_accepted
use Prim.Native.Nat.{ℕ, zero, suc, ◌+◌, ◌-◌, ◌<◌, ◌≤◌}
use native.Mathlib.Omega.{arith}
use mathlib.Core.Path.{◌≡◌, ap, sym, ◌∙◌}
use mathlib.Core.Logic.{◌⊎◌, inl, inr}
use mathlib.Core.List.{List, [], ◌∷◌, map}
use lib.ListN.{length}
use Rattle.alf.specs.declared.Rules.{Rules}
use Rattle.alf.specs.declared.Sort.TheVariants.{Vector}
use Rattle.alf.specs.Expressions.{Boolean, name, stays}
use Rattle.alf.specs.Bytes.{edge_number}
use Rattle.alf.specs.Decoder.{edge_at}
use Rattle.alf.specs.Alternatives.{Test, test, Step, Alternative, alternatives}
use Rattle.alf.proofs.EdgeNumbers.{edge_stays}
use Rattle.alf.proofs.OperatorBytes.{edge_byte}
use Rattle.alf.proofs.Growth.{some_alternative}
use Rattle.alf.proofs.WindowsAreAlternatives.{every_has_steps}
use Rattle.basics.proofs.AllEntries.{All, none, more}
use Rattle.basics.proofs.Bools.{below?}
use Rattle.trees.specs.Parts.{vector_at}
use Rattle.acceptance.specs.Accepted.{Accepted}
use Rattle.acceptance.proofs.Acceptance.{accepted_tree}
use Rattle.steady_pins.specs.Pinned.{by_places}
use Rattle.steady_pins.specs.Finding.{Tree, pins_of}
use Rattle.steady_pins.proofs.Found.{found_pins, found_means}
use Rattle.step_tests.specs.OperandPlaces.{place_of, edge_of, end_of, numbers}
use Rattle.step_tests.proofs.Exchanging.{test_on}
use Rattle.step_tests.proofs.Places.{edge_back, operand_back}
use Rattle.rewriting.specs.Lists.{joined, alternatives_at, step_list, test_list, edge_list, operand_list}
use Rattle.rewriting.proofs.Asking.{Asks, asks, alternatives_ask, all_joined}
use Rattle.rewriting.proofs.Bounds.{accepted_limited}
use Rattle.rewriting.proofs.Holding.{step_entries, test_entries, edge_entries, operand_entries}
use Rattle.rewriting.proofs.Joining.{joined_map, lengths_sum}
use Rattle.rewriting.proofs.Meaning.{alternatives_back}
use Rattle.rewriting_calls.proofs.Theorems.{rewritten_stand, edges_own}
use Rattle.listed_acceptance.specs.Lists.{Each, Operand, Known, AcceptedAlternatives}
use Rattle.rewritten_laws.proofs.Operands.{tree_operands}

mapped_each : {A : Type 0} {P : A → Type 0} (so : ℕ → Type 0) (f : A → ℕ) → ((x : A) → P x → so (f x))
    → {xs : List A} → All P xs
    → Each so (map f xs)
mapped_each so f h none k l = absurd (omega arith)
mapped_each so f h (more {x = x} p s) zero l = h x p
mapped_each so f h (more p s) (suc k) l = mapped_each so f h s k (omega arith)

-- the number of an edge that is read back from a number
last_known : edge_number stays ≤ 82
unfolding edge_number
last_known = omega arith

edge_known : (k : ℕ) → edge_number (edge_at k) ≤ 82
edge_known k = go (below? k 83)
  where
    go : (k < 83) ⊎ (83 ≤ k) → edge_number (edge_at k) ≤ 82
    go (inl h) =
        let d : 64 + k - 64 ≡ k = omega arith in
        let e = rw d at (edge_byte {b = 64 + k} (omega arith) (omega arith)) in
        omega arith
    go (inr h) = rw (edge_stays k (omega arith) (λ e. omega arith)) last_known

tests_known : (f : Boolean → Boolean) (ts : Step) → Each Known (numbers (map (test_on edge_back f) ts))
unfolding edge_of test_on
tests_known f [] k l = absurd (omega arith)
tests_known f (test e c ∷ ts) zero l = edge_known (edge_number e)
tests_known f (test e c ∷ ts) (suc k) l = tests_known f ts k (omega arith)

module _ {ρ : Rules} (names : ℕ) (tree : List ℕ) (a : Accepted ρ names Vector tree) where
  whole : Tree tree names (length tree)
  whole = accepted_tree tree names a

  abbrev xs : List Alternative
  xs = alternatives_at ρ tree names

  edges_back : edge_list xs ≡ numbers (map (test_on edge_back (operand_back tree names)) (joined (joined xs)))
  unfolding edge_list
  edges_back =
      edges_own ρ tree names a
      ∙ ap edge_list
      (sym (alternatives_back tree names whole.ends _ (found_pins ρ whole) ∙ ap alternatives (found_means ρ whole)))
      ∙ ap (λ (ys : List Step). numbers (joined ys)) (joined_map (map (test_on edge_back (operand_back tree names))) xs)
      ∙ ap numbers (joined_map (test_on edge_back (operand_back tree names)) (joined xs))

  edges_known : Each Known (edge_list xs)
  edges_known = rw edges_back (tests_known (operand_back tree names) (joined (joined xs)))

  all_stepped : Each (λ n. 0 < n) (step_list xs)
  unfolding step_list
  all_stepped = mapped_each (λ n. 0 < n) length (λ x h. h) (every_has_steps _)

  asked : (t : Test) → Asks (λ c. Operand tree names (place_of c)) t → Operand tree names (end_of t)
  unfolding end_of
  asked (test e c) (asks h) = h

  operands_are : Each (Operand tree names) (operand_list xs)
  unfolding operand_list
  operands_are =
      mapped_each (Operand tree names) end_of asked
      (all_joined (all_joined (alternatives_ask (λ c. Operand tree names (place_of c)) (tree_operands tree names a))))

  some_step : 0 < length (step_list xs)
  some_step =
      let e = some_alternative (by_places name (pins_of ρ tree names (length tree)) (length tree)
      (vector_at tree names (length tree))) in
      omega (arith, step_entries xs)

  pub lists_accepted : AcceptedAlternatives names tree (step_list xs) (test_list xs) (edge_list xs) (operand_list xs)
  unfolding step_list test_list
  lists_accepted =
      record {
        all_steps = lengths_sum xs ∙ sym (test_entries xs);
        all_tests_lem = lengths_sum (joined xs) ∙ sym (edge_entries xs);
        all_operands = operand_entries xs ∙ sym (edge_entries xs);
        within = rw (rewritten_stand ρ tree names a) (accepted_limited tree names a);
        some = some_step;
        stepped = all_stepped;
        known = edges_known;
        operand = operands_are;
      }
