-- Laws of tests.
--   never                            false is not true
--   and_left, and_right              what both say, each says
--   or_left, or_right, or_yes        what neither says, each does not say; what one says
--   equal?, below?                   two numbers by cases
use mathlib.Core.Path.{◌≡◌, refl, sym}
use mathlib.Core.Bool.{Bool, true, false, ◌&&◌, ◌||◌, false≢true}
use mathlib.Core.Logic.{◌⊎◌, inl, inr}
use Prim.Native.Nat.{ℕ, ◌<◌, ◌≤◌}
use lib.Dec.{eqb, ltb}
use borrow.Author.Tests.{eqb-true, eqb-false, ltb-true, ltb-false}

pub never : {A : Type 0} → false ≡ true → A
never e = absurd (false≢true e)

pub and_left : (p q : Bool) → (p && q) ≡ true → p ≡ true
and_left true q h = refl
and_left false q h = h

pub and_right : (p q : Bool) → (p && q) ≡ true → q ≡ true
and_right true q h = h
and_right false q h = never h

pub or_left : (p q : Bool) → (p || q) ≡ false → p ≡ false
or_left true q h = h
or_left false q h = refl

pub or_right : (p q : Bool) → (p || q) ≡ false → q ≡ false
or_right true q h = never (sym h)
or_right false q h = h

pub or_yes : (p : Bool) → (p || true) ≡ true
or_yes true = refl
or_yes false = refl

-- two numbers are equal or not
pub equal? : (m n : ℕ) → (m ≡ n) ⊎ (m ≡ n → ⊥)
equal? m n = go (eqb m n) refl
  where
    go : (q : Bool) → eqb m n ≡ q → (m ≡ n) ⊎ (m ≡ n → ⊥)
    go true e = inl (eqb-true m n e)
    go false e = inr (eqb-false m n e)

pub below? : (m n : ℕ) → (m < n) ⊎ (n ≤ m)
below? m n = go (ltb m n) refl
  where
    go : (q : Bool) → ltb m n ≡ q → (m < n) ⊎ (n ≤ m)
    go true e = inl (ltb-true m n e)
    go false e = inr (ltb-false m n e)
