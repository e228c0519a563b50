-- The report of contradictory alternatives as a call: 18, 10, 9, or a flag for each alternative.
--   own_at, flag_order     the alternatives of a tree's expression; 9 for a short list of flags
--   Contradicts, Reports     the call, its end for an accepted tree
use Rattle.std.specs.Prelude.{ℕ, ◌≡◌, List, [], ◌∷◌, length}
use Rattle.basics.specs.Refusing.{Outcome}
use Rattle.alf.specs.Alternatives.{Alternative, alternatives}
use Rattle.alf.specs.Steady.{meant}
use Rattle.alf.specs.declared.Rules.{Rules}
use Rattle.alf.specs.Refusals.{Order, check, no_room, Comes}
use Rattle.trees.specs.Parts.{vector_at}
use Rattle.contradictions.specs.Possible.{flag_list}
use Rattle.rewriting_calls.specs.Calls.{tree_order}
use Rattle.basics.specs.Memory.{after, front}

-- the alternatives of the expression as the rules read it; the report of the contradictory ones: 9, or a flag for each
abbrev pub own_at : Rules → List ℕ → ℕ → List Alternative
own_at ρ tree names = alternatives (meant ρ (vector_at tree names (length tree)))

unfoldable pub flag_order : ℕ → List Alternative → List ℕ → Order
flag_order names xs flags = check 9 (no_room (length (flag_list names xs)) (length flags)) ∷ []

pub record Reports (ρ : Rules) (names : ℕ) (tree flags flags' : List ℕ) (r : Outcome) : Type 0 where
  pub outcome : Comes (flag_order names (own_at ρ tree names) flags) (λ k. k ≡ length (own_at ρ tree names)) r
  pub memory : flags' ≡ after (front (flag_list names (own_at ρ tree names)) flags) flags r

pub record Contradicts (ρ : Rules) (names : ℕ) (tree flags flags' : List ℕ) (r : Outcome) : Type 0 where
  pub outcome : Comes (tree_order ρ names tree (flag_order names (own_at ρ tree names) flags))
      (λ k. k ≡ length (own_at ρ tree names)) r
  pub memory : flags' ≡ after (front (flag_list names (own_at ρ tree names)) flags) flags r
