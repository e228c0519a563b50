-- What is corrected by the lists of an accepted tree is what document 01 defines for the tree's expression:
-- tree_corrects.
use mathlib.Core.Path.{◌≡◌, ap₂, ◌∙◌}
use mathlib.Core.List.{List}
use Prim.Native.Nat.{ℕ, ◌+◌, ◌-◌}
use Rattle.alf.specs.declared.Rules.{Rules}
use Rattle.alf.specs.Traces.{corrected, last_rewritten}
use Rattle.basics.specs.Words.{listed}
use Rattle.basics.specs.Memory.{placed}
use Rattle.correction.specs.Corrections.{Corrects}
use Rattle.alternatives.specs.declared.lists.Lists.{Lists}
use Rattle.rewriting.specs.Lists.{StandFor}
use Rattle.update_calls.specs.Correcting.{CorrectsTree}
use Rattle.matching_calls.proofs.ByAlternatives.{xs, numbers_on, steps_are}

same_rewritten : (answers : List ℕ) (n r : ℕ) {k k' : ℕ} {f g : ℕ → ℕ} → k ≡ k' → f ≡ g
    → placed answers r (listed r (last_rewritten k n r + 1 - r) f)
    ≡ placed answers r (listed r (last_rewritten k' n r + 1 - r) g)
same_rewritten answers n r =
    ap₂ (λ (k : ℕ) (f : ℕ → ℕ). placed answers r (listed r (last_rewritten k n r + 1 - r) f))

module _ {ρ : Rules} {names : ℕ} {tree : List ℕ} {ls : Lists} (h : StandFor ρ tree names ls) where
  pub tree_corrects : {n r : ℕ} {states answers new states' answers' : List ℕ}
      → Corrects ρ names (xs h) n r states answers new states' answers'
      → CorrectsTree ρ names n tree states answers r new states' answers'
  tree_corrects {n} {r} {states} {answers} {new} k =
      record {
        stored = k.stored;
        answered =
            k.rewritten
            ∙ same_rewritten answers n r (steps_are h) (numbers_on h (corrected names states r new));
      }
