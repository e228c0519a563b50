-- Rows that are overwritten one after the other, entry by entry.
--   RowGoing, one_first, one_length, one_next, one_end                     the first i entries of a row
--   Going, going_first, going_length, going_room, going_next, going_end    the first r rows
--   row_length, blanked_length                                             a row's length, a trace's length
use Rattle.std.specs.Prelude.{if◌then◌else◌}
use Prim.Native.Nat.{ℕ, ◌+◌, ◌*◌, ◌<◌, ◌≤◌}
use native.Mathlib.Nat.{zero-add, zero-mul, suc-mul, mul-le-mul_right}
use native.Mathlib.Numerals.{add-one}
use native.Mathlib.Omega.{arith}
use mathlib.Core.Path.{◌≡◌, refl, ap, sym, ◌∙◌}
use mathlib.Core.Bool.{Bool, true, false, not}
use mathlib.Core.List.{List}
use lib.Dec.{eqb}
use lib.ListN.{length, get_or, set, take}
use lib.Seq.{sets, length-take-le}
use Rattle.basics.specs.Words.{listed}
use Rattle.basics.proofs.Listed.{listed_length, listed_same, ruling_next, ruling_end}
use Rattle.basics.proofs.Stores.{Writing, writing_first, writing_length}
use Rattle.basics.proofs.Stores.{sets_append, sets_behind, sets_length, sets_whole}
use Rattle.alf.specs.States.{X}
use Rattle.named_pins.specs.Tables.{keeps}
use Rattle.queue.specs.Queues.{fed}
use Rattle.queue.proofs.LastRows.{fed_length}
use Rattle.blank_calls.specs.Overwritten.{blanked_row, blanked, blanked_by_x}
use Rattle.blank_calls.specs.Blanking.{state_kept, BlanksRow, RowsAsked, BlanksRows}

-- the entries of a row that is to stand from `at` on
abbrev pub ruled : List ℕ → ℕ → List ℕ → ℕ → ℕ
ruled states at kept = λ n. state_kept (get_or kept n 0) (get_or states (at + n) 0)

pub record RowGoing (states : List ℕ) (at : ℕ) (kept states' : List ℕ) (i : ℕ) : Type 0 where
  pub written : Writing states at (listed 0 (length kept) (ruled states at kept)) states' i

pub one_first : {states : List ℕ} {at : ℕ} {kept : List ℕ} → RowGoing states at kept states 0
one_first = record { written = writing_first }

module _ {states : List ℕ} {at : ℕ} {kept states' : List ℕ} {i : ℕ} (w : RowGoing states at kept states' i) where
  pub one_length : length states' ≡ length states
  one_length = writing_length w.written

  -- what is not yet written is as before
  as_before : i < length kept → get_or states' (at + i) 0 ≡ get_or states (at + i) 0
  as_before l =
      let few = listed_length 0 (length kept) (ruled states at kept) in
      let long = length-take-le i (listed 0 (length kept) (ruled states at kept)) (omega arith) in
      ap (λ (z : List ℕ). get_or z (at + i) 0) w.written.is
      ∙ sets_behind states at (take i (listed 0 (length kept) (ruled states at kept))) (at + i) (omega (arith, long))

  pub one_next : {v : ℕ} → i < length kept → v ≡ state_kept (get_or kept i 0) (get_or states' (at + i) 0)
      → RowGoing states at kept (set states' (at + i) v) (i + 1)
  one_next l f =
      record {
        written =
            ruling_next 0 (ruled states at kept) w.written l
            (f ∙ ap (state_kept (get_or kept i 0)) (as_before l)
            ∙ sym (ap (λ (z : ℕ). ruled states at kept z) (zero-add i)));
      }

  pub one_end : length kept ≤ i → BlanksRow states at kept states'
  one_end h = record { is = ruling_end 0 (ruled states at kept) w.written h }

-- an entry of the table says what `keeps` says
kept_state : (e s : ℕ) → state_kept e s ≡ (if not (eqb e 0) then s else X)
unfolding state_kept
kept_state e s = go (eqb e 0)
  where
    go : (q : Bool) → (if q then X else s) ≡ (if not q then s else X)
    go true = refl
    go false = refl

-- whatever the pins are overwritten by
module _ (pins : ℕ → Bool) (other : ℕ → ℕ → ℕ) (k : ℕ) (states : List ℕ) where
  pub row_length : (r : ℕ) → length (blanked_row pins other k states r) ≡ k
  unfolding blanked_row
  row_length r = listed_length 0 k _

  pub blanked_length : (n : ℕ) → length (blanked pins other k n states) ≡ n * k
  blanked_length n = fed_length k (blanked_row pins other k states) n (λ r h. row_length r)

module _ (kept states : List ℕ) where
  abbrev rows : ℕ → List ℕ
  rows = blanked_row (keeps kept) (λ r m. X) (length kept) states

  rows_length : (n : ℕ) → length (blanked_by_x kept (length kept) n states) ≡ n * length kept
  rows_length n = blanked_length (keeps kept) (λ r m. X) (length kept) states n

  -- a row whose states are as before
  row_is : (now : List ℕ) (r : ℕ)
      → ((n : ℕ) → n < length kept → get_or now (r * length kept + n) 0 ≡ get_or states (r * length kept + n) 0)
      → listed 0 (length kept) (ruled now (r * length kept) kept) ≡ rows r
  unfolding blanked_row keeps
  row_is now r h =
      listed_same _ _ 0 (length kept)
      (λ n l.
      ap (state_kept (get_or kept n 0)) (h n (omega arith))
      ∙ kept_state (get_or kept n 0) (get_or states (r * length kept + n) 0))

-- the first r rows are overwritten
pub record Going (n : ℕ) (states kept states' : List ℕ) (at r : ℕ) : Type 0 where
  pub within : r ≤ n
  pub place : at ≡ r * length kept
  pub is : states' ≡ sets states 0 (blanked_by_x kept (length kept) r states)

pub going_first : {n : ℕ} {states kept : List ℕ} → Going n states kept states 0 0
unfolding fed
going_first {kept = kept} = record { within = omega arith; place = sym (zero-mul (length kept)); is = refl }

module _ {n : ℕ} {states kept states' : List ℕ} {at r : ℕ} (g : Going n states kept states' at r)
    (asked : RowsAsked n states kept) where
  pub going_length : length states' ≡ length states
  going_length = ap length g.is ∙ sets_length states 0 (blanked_by_x kept (length kept) r states)

  pub going_room : r < n → at + length kept ≤ length states
  going_room l =
      omega (arith, mul-le-mul_right (length kept) l, suc-mul r (length kept), asked.all, g.place)

  entry : (m : ℕ) → get_or states' (r * length kept + m) 0 ≡ get_or states (r * length kept + m) 0
  entry m =
      ap (λ (z : List ℕ). get_or z (r * length kept + m) 0) g.is
      ∙ sets_behind states 0 (blanked_by_x kept (length kept) r states) (r * length kept + m)
      (omega (arith, rows_length kept states r))

  pub going_next : {states'' : List ℕ} → r < n → BlanksRow states' at kept states''
      → Going n states kept states'' (at + length kept) (r + 1)
  unfolding fed
  going_next l b =
      let long : r * length kept ≡ 0 + length (blanked_by_x kept (length kept) r states) =
      omega (arith, rows_length kept states r) in
      record {
        within = omega arith;
        place = rw add-one (omega (arith, g.place, suc-mul r (length kept)));
        is =
            rw add-one
            ((rw g.place at b.is)
            ∙ ap (λ (w : List ℕ). sets states' (r * length kept) w) (row_is kept states states' r (λ m h. entry m))
            ∙ ap (λ (z : List ℕ). sets z (r * length kept) (rows kept states r)) g.is
            ∙ ap
            (λ (p : ℕ). sets (sets states 0 (blanked_by_x kept (length kept) r states)) p (rows kept states r)) long
            ∙ sets_append states 0 (blanked_by_x kept (length kept) r states) (rows kept states r));
      }

  pub going_end : n ≤ r → BlanksRows n states kept states'
  going_end h =
      let e : r ≡ n = omega (arith, g.within) in
      record {
        is =
            (rw e at g.is)
            ∙ sets_whole states (blanked_by_x kept (length kept) n states)
            (rows_length kept states n ∙ sym asked.all);
      }
