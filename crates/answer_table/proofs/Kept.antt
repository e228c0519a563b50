-- What stands in the parts of the operands while an operator's part is written.
--   off                        no window without an event has an entry
--   row_kept, part_kept        a part before the one that is written is as it was
--   operated_kept              and so is what the operator makes of two
use Prim.Native.Nat.{ℕ, ◌+◌, ◌<◌, ◌≤◌}
use native.Mathlib.Omega.{arith}
use mathlib.Core.Path.{◌≡◌}
use mathlib.Core.List.{List}
use Rattle.alf.specs.Windows.{Window}
use Rattle.answer_table.specs.Tables.{stored, operated, Row, Part}
use Rattle.answer_table.proofs.Stored.{stored_none, stored_same}
use Rattle.answer_table.proofs.Shifts.{Off, As, unmoved, operated_as}

pub off : (t : List ℕ) (p : ℕ) → Off (stored t p)
off t p x = stored_none t p x x (omega arith)

abbrev pub Same : List ℕ → List ℕ → ℕ → Type 0
Same t u p = As (λ x. x) 16 (stored u p) (stored t p)

module _ {W : Window} {base : ℕ} {t u : List ℕ} (p : ℕ) where
  pub row_kept : {a j : ℕ} → Row W base a j t u → p + 256 ≤ base → Same t u p
  row_kept r l =
      record { is = λ x y k m. stored_same t u p x y m (λ i n o. r.below i (omega arith)) }

  pub part_kept : {size n : ℕ} → Part W base size n t u → p + 256 ≤ base → Same t u p
  part_kept r l =
      record { is = λ x y k m. stored_same t u p x y m (λ i n o. r.below i (omega arith)) }

pub operated_kept : (t u : List ℕ) (p q k a b : ℕ) → a < b → b ≤ 16 → Same t u p → Same t u q
    → operated k (stored u p) (stored u q) a b ≡ operated k (stored t p) (stored t q) a b
operated_kept t u p q k a b some last x y =
    operated_as (λ x. x) unmoved 16 a b some last x y k (off u p) (off u q) (λ l. (off t p, off t q))
