-- A row's answer.
--   row_first, row_later     row 0 has no event; at a later row it is the number of the greatest answer
use Prim.Native.Nat.{ℕ, zero, suc}
use mathlib.Core.Path.{◌≡◌, refl}
use Rattle.alf.specs.Expressions.{Boolean, Vector}
use Rattle.alf.specs.Windows.{numbered, best, row_answer}

module _ (st : Boolean → ℕ → ℕ) (p : Vector) (i : ℕ) where
  pub row_first : i ≡ 0 → 3 ≡ row_answer st p i
  unfolding row_answer
  row_first e = rw e refl

pub row_later : (st : Boolean → ℕ → ℕ) (p : Vector) (i : ℕ) {r b : ℕ} → (i ≡ 0 → ⊥) → b ≡ best st p i
    → r ≡ numbered b → r ≡ row_answer st p i
unfolding row_answer
row_later st p zero n e h = absurd (n refl)
row_later st p (suc i) n e h = rw (← e) h
