-- What holds of each number from one on up to another.
--   upto_none, upto_more   of none of them, of one more
use mathlib.Core.Path.{◌≡◌, refl}
use mathlib.Core.Bool.{Bool, true, false}
use Prim.Native.Nat.{ℕ, ◌+◌, ◌≤◌, ◌<◌}
use native.Mathlib.Omega.{arith}
use lib.Dec.{eqb}
use borrow.Author.Tests.{eqb-true, eqb-false}

module _ (P : ℕ → Type 0) where
  pub upto_none : (i : ℕ) → (j : ℕ) → i ≤ j → j < i → P j
  upto_none i j h l = absurd (omega arith)

  pub upto_more :
      (from i : ℕ) → ((j : ℕ) → from ≤ j → j < i → P j) → P i → (j : ℕ) → from ≤ j →
      j < i + 1 → P j
  upto_more from i below here j h l = go (eqb j i) refl
    where
      go : (b : Bool) → eqb j i ≡ b → P j
      go true e = rw (eqb-true j i e) here
      go false e = below j h (omega (arith, eqb-false j i e))
