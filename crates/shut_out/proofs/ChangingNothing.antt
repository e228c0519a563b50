-- Shut out: "a correction that changes nothing (demand 3, whose list may be junk)", and document 01's reading that
-- looks right, "Stopping a correction at row r". What follows from `leaves_junk` (Correcting.antt) for the whole list.
-- For every accepted tree, every good trace and every K:
--   changes_nothing       the list is not left as it is, where the entry of row r is no answer
--   stops_at_row_r        the entry behind row r is not left as it is, where it is no answer
-- and on T, case 12, where the list was right before:
--   changes_nothing_on_T  the list of six times 9 does not stay
use Prim.Native.Nat.{ℕ, ◌+◌, ◌<◌}
use native.Mathlib.Omega.{arith}
use mathlib.Core.Path.{◌≡◌, refl, ap}
use mathlib.Core.List.{List}
use lib.ListN.{get_or}
use Rattle.basics.specs.Refusing.{Outcome}
use Rattle.alf.specs.declared.Rules.{Rules}
use Rattle.alf.specs.TableT.{names, rows, states}
use Rattle.update_calls.specs.Correcting.{Correction}
use Rattle.shut_out.specs.Asked as T
use Rattle.shut_out.specs.Asked.{rises, junk}
use Rattle.shut_out.proofs.RefusingUpdates.{Correctable}
use Rattle.shut_out.proofs.Correcting.{leaves_junk, reached, next_reached, new_row, correctable}

module _ {ρ : Rules} {k n : ℕ} {tree codes answers : List ℕ} {r : ℕ} {new codes' answers' : List ℕ}
    (g : Correctable ρ k n tree codes answers r new) where
  module _ (o : Outcome) (w : Correction ρ k n tree codes answers r new codes' answers' o) where
    pub changes_nothing : 3 < get_or answers r 0 → answers' ≡ answers → ⊥
    changes_nothing j same =
        leaves_junk g o w r (omega arith) (reached g o w) j (ap (λ (l : List ℕ). get_or l r 0) same)

    pub stops_at_row_r : r + 1 < n → 3 < get_or answers (r + 1) 0
        → get_or answers' (r + 1) 0 ≡ get_or answers (r + 1) 0 → ⊥
    stops_at_row_r h j same = leaves_junk g o w (r + 1) (omega arith) (next_reached g o w h) j same

-- Case 12.
pub changes_nothing_on_T : {ρ : Rules} {states' answers' : List ℕ} (o : Outcome)
    → Correction ρ names rows (T.asked rises) states junk 3 new_row states' answers' o → answers' ≡ junk → ⊥
unfolding junk
changes_nothing_on_T o w same = changes_nothing (correctable junk refl) o w (omega arith) same
