-- The call `blank`: a trace in which every pin is X that a table does not keep, or a refusal.
--   blank_order     18 and 15 of the trace; the table has an entry for each name. No tree is handed in, so 10 is not
--                  among them
--   Blanks         what the call comes to
--   state_kept, BlanksRow, RowsAsked, BlanksRows     what the functions inside ask and give
use Rattle.std.specs.Prelude.{ℕ, ◌+◌, ◌*◌, ◌≡◌, List, ◌∷◌, eqb, length, get_or, if◌then◌else◌}
use Rattle.std.proofs.lemmas.List.Edits.{sets}
use Rattle.basics.specs.Refusing.{Outcome}
use Rattle.basics.specs.Memory.{after}
use Rattle.basics.specs.Words.{listed}
use Rattle.alf.specs.Refusals.{Order, check, bad_lists, Comes}
use Rattle.alf.specs.States.{X}
use Rattle.judging.specs.Orders.{Rows, codes}
use Rattle.blank_calls.specs.Overwritten.{blanked_by_x}

abbrev pub blank_order : ℕ → ℕ → List ℕ → List ℕ → Order
blank_order k n states kept =
    check 18 (bad_lists ((length kept ≡ k) × Rows k n (length states))) ∷ codes states

-- n rows, overwritten
pub record Blanks (k n : ℕ) (states kept states' : List ℕ) (r : Outcome) : Type 0 where
  pub comes : Comes (blank_order k n states kept) (λ m. m ≡ n) r
  pub memory : states' ≡ after (blanked_by_x kept k n states) states r

-- the state of a pin, by its entry in the table
unfoldable pub state_kept : ℕ → ℕ → ℕ
state_kept entry state = if eqb entry 0 then X else state

-- one row, from a place on
pub record BlanksRow (states : List ℕ) (at : ℕ) (kept states' : List ℕ) : Type 0 where
  pub is : states'
      ≡ sets states at (listed 0 (length kept) (λ n. state_kept (get_or kept n 0) (get_or states (at + n) 0)))

pub record RowsAsked (n : ℕ) (states kept : List ℕ) : Type 0 where
  pub all : length states ≡ n * length kept

pub record BlanksRows (n : ℕ) (states kept states' : List ℕ) : Type 0 where
  pub is : states' ≡ blanked_by_x kept (length kept) n states
