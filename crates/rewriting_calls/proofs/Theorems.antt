-- The statements that rewriting stands for.
--   rewrites_unique                     outcome and lists afterwards follow from the input
--   rewritten_stand                     the lists stand for the alternatives of the expression as it is read, in order,
--                                       nothing else
--   steps_own, tests_own, edges_own     steps, tests and edges in the lists are those of these alternatives
use Prim.Native.Nat.{ℕ}
use mathlib.Core.Path.{◌≡◌, refl, ap, sym, ◌∙◌}
use mathlib.Core.List.{List, [], ◌∷◌, map}
use lib.ListN.{length}
use Rattle.basics.specs.Refusing.{Outcome}
use Rattle.alf.specs.declared.Rules.{Rules}
use Rattle.alf.specs.declared.Sort.TheVariants.{Vector}
use Rattle.alf.specs.Steady.{meant}
use Rattle.alf.specs.Expressions.{literal}
use Rattle.alf.specs.Alternatives.{Test, test, Step, Alternative, alternatives}
use Rattle.alf.specs.Refusals.{Order}
use Rattle.alf.proofs.Outcomes.{AllFixed, at_fixed, comes_unique}
use Rattle.trees.specs.Parts.{vector_at}
use Rattle.acceptance.specs.Accepted.{Accepted}
use Rattle.acceptance.proofs.Acceptance.{accepted_tree}
use Rattle.steady_pins.proofs.Found.{found_means, found_pins}
use Rattle.alternatives.specs.InMemory.{alternatives_of_lem}
use Rattle.step_tests.specs.OperandPlaces.{edge_of, numbers}
use Rattle.rewriting.specs.Lists.{joined, alternatives_at, step_list, test_list, edge_list, operand_list}
use Rattle.rewriting_calls.specs.Calls.{tree_order, room_order, Rewrites}
use Rattle.step_tests.proofs.Exchanging.{test_on}
use Rattle.rewriting.proofs.Joining.{joined_map, lengths_map}
use Rattle.rewriting.proofs.Meaning.{lists_stand}
use Rattle.rewriting.proofs.Holding.{meant_same}
use Rattle.basics.proofs.Memory.{after_unique}

module _ (ρ : Rules) (names : ℕ) (tree steps tests edges operands : List ℕ) where
  abbrev order : Order
  order = tree_order ρ names tree (room_order (alternatives_at ρ tree names) steps tests edges operands)

  order_fixed : AllFixed order
  unfolding tree_order room_order
  order_fixed = (
    at_fixed _ _,
    (at_fixed _ _, (at_fixed _ _, (at_fixed _ _, (at_fixed _ _, (at_fixed _ _, tt))))),
  )

  pub rewrites_unique : {steps₁ tests₁ edges₁ operands₁ steps₂ tests₂ edges₂ operands₂ : List ℕ}
      {r q : Outcome}
      → Rewrites ρ names tree steps tests edges operands steps₁ tests₁ edges₁ operands₁ r
      → Rewrites ρ names tree steps tests edges operands steps₂ tests₂ edges₂ operands₂ q
      → (r ≡ q) × (steps₁ ≡ steps₂) × (tests₁ ≡ tests₂) × (edges₁ ≡ edges₂)
      × (operands₁ ≡ operands₂)
  rewrites_unique {r = r} {q = q} a b =
      let e : r ≡ q = comes_unique order _ order_fixed (λ j k x y. x ∙ sym y) r q a.outcome b.outcome in
      let m = a.memory in
      let n = b.memory in (
        e,
        after_unique _ steps e m.steps_are n.steps_are,
        after_unique _ tests e m.tests_are n.tests_are,
        after_unique _ edges e m.edges_are n.edges_are,
        after_unique _ operands e m.operands_are n.operands_are,
      )

module _ (ρ : Rules) (tree : List ℕ) (names : ℕ) (a : Accepted ρ names Vector tree) where
  abbrev placed_ones : List Alternative
  placed_ones = alternatives_at ρ tree names

  abbrev own_ones : List Alternative
  own_ones = alternatives (meant ρ (vector_at tree names (length tree)))

  pub rewritten_stand : alternatives_of_lem tree names (step_list placed_ones) (test_list placed_ones) (edge_list placed_ones)
      (operand_list placed_ones) ≡ own_ones
  rewritten_stand =
      let h = accepted_tree tree names a in
      lists_stand tree names h.ends _ (found_pins ρ h) ∙ ap alternatives (found_means ρ h)

  abbrev bare : Test → Test
  bare = test_on (λ e. e) (λ c. literal 0)

  same : map (map (map bare)) placed_ones ≡ map (map (map bare)) own_ones
  same = meant_same a

  steps_bare : (xs : List Alternative) → step_list (map (map (map bare)) xs) ≡ step_list xs
  unfolding step_list
  steps_bare xs = lengths_map (map bare) xs

  tests_bare : (xs : List Alternative) → test_list (map (map (map bare)) xs) ≡ test_list xs
  unfolding test_list
  tests_bare xs = ap (map length) (joined_map (map bare) xs) ∙ lengths_map bare (joined xs)

  numbers_bare : (s : Step) → numbers (map bare s) ≡ numbers s
  unfolding edge_of test_on
  numbers_bare [] = refl
  numbers_bare (test e c ∷ s) = ap (◌∷◌ (edge_of (test e c))) (numbers_bare s)

  edges_bare : (xs : List Alternative) → edge_list (map (map (map bare)) xs) ≡ edge_list xs
  unfolding edge_list
  edges_bare xs =
      ap (λ (ys : List Step). numbers (joined ys)) (joined_map (map bare) xs)
      ∙ ap numbers (joined_map bare (joined xs)) ∙ numbers_bare (joined (joined xs))

  pub steps_own : step_list placed_ones ≡ step_list own_ones
  steps_own = sym (steps_bare placed_ones) ∙ ap step_list same ∙ steps_bare own_ones

  pub tests_own : test_list placed_ones ≡ test_list own_ones
  tests_own = sym (tests_bare placed_ones) ∙ ap test_list same ∙ tests_bare own_ones

  pub edges_own : edge_list placed_ones ≡ edge_list own_ones
  edges_own = sym (edges_bare placed_ones) ∙ ap edge_list same ∙ edges_bare own_ones
