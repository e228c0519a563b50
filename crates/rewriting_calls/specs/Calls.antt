-- Document 01, "Totals, matching, rewriting, ..: 18, 10, 15, 19; for rewriting 9 last, first short output": what the
-- call comes to that rewrites a tree into lent lists.
--   tree_order, room_order     the order of the refusals: 18, 10; 9 for the first short list
--   After                    the lent lists then
--   Delivers, Rewrites       the call for an accepted tree, and for any tree
use Rattle.std.specs.Prelude.{ℕ, ◌≡◌, List, [], ◌∷◌, length}
use Rattle.basics.specs.Refusing.{Outcome}
use Rattle.alf.specs.declared.Rules.{Rules}
use Rattle.alf.specs.declared.Sort.TheVariants.{Vector}
use Rattle.alf.specs.Alternatives.{Alternative, number_of_alternatives}
use Rattle.alf.specs.Steady.{meant}
use Rattle.alf.specs.Refusals.{Order, check, bad_lists, cannot_be, no_room, NameCount, Comes}
use Rattle.trees.specs.Parts.{vector_at}
use Rattle.acceptance.specs.Accepted.{Accepted}
use Rattle.rewriting.specs.Lists.{alternatives_at, step_list, test_list, edge_list, operand_list}
use Rattle.basics.specs.Memory.{after, front}

-- 18 and 10, then the others
unfoldable pub tree_order : Rules → ℕ → List ℕ → Order → Order
tree_order ρ names tree others =
    check 18 (bad_lists (NameCount names)) ∷
    check 10 (cannot_be (Accepted ρ names Vector tree → ⊥)) ∷
    others

-- 9 for steps, tests, edges, operands
unfoldable pub room_order : List Alternative → List ℕ → List ℕ → List ℕ → List ℕ → Order
room_order xs steps tests edges operands =
    check 9 (no_room (length (step_list xs)) (length steps)) ∷
    check 9 (no_room (length (test_list xs)) (length tests)) ∷
    check 9 (no_room (length (edge_list xs)) (length edges)) ∷
    check 9 (no_room (length (operand_list xs)) (length operands)) ∷
    []

-- the four lists afterwards
pub record After (xs : List Alternative) (steps tests edges operands steps' tests' edges' operands' : List ℕ)
    (r : Outcome) : Type 0 where
  pub steps_are : steps' ≡ after (front (step_list xs) steps) steps r
  pub tests_are : tests' ≡ after (front (test_list xs) tests) tests r
  pub edges_are : edges' ≡ after (front (edge_list xs) edges) edges r
  pub operands_are : operands' ≡ after (front (operand_list xs) operands) operands r

-- the end of the call, where the tree is accepted
pub record Delivers (xs : List Alternative)
    (steps tests edges operands steps' tests' edges' operands' : List ℕ)
    (r : Outcome) : Type 0 where
  pub outcome : Comes (room_order xs steps tests edges operands) (λ k. k ≡ length xs) r
  pub memory : After xs steps tests edges operands steps' tests' edges' operands' r

-- the call
pub record Rewrites (ρ : Rules) (names : ℕ)
    (tree steps tests edges operands steps' tests' edges' operands' : List ℕ)
    (r : Outcome) : Type 0 where
  pub outcome : Comes (tree_order ρ names tree (room_order (alternatives_at ρ tree names) steps tests edges operands))
      (λ k. k ≡ number_of_alternatives (meant ρ (vector_at tree names (length tree)))) r
  pub memory : After (alternatives_at ρ tree names) steps tests edges operands steps' tests' edges' operands' r
