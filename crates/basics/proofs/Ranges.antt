-- A rule over a range of numbers, by one computed test. Main names: all_from, all_from_law.
use Prim.Native.Nat.{ℕ, zero, suc, ◌+◌, ◌≤◌, ◌<◌}
use native.Mathlib.Omega.{arith}
use mathlib.Core.Path.{◌≡◌, refl}
use mathlib.Core.Bool.{Bool, true, false, ◌&&◌}
use lib.Dec.{eqb}
use borrow.Author.Tests.{eqb-true, eqb-false}
use Rattle.basics.proofs.Bools.{and_left, and_right}

-- each of n numbers from lo on passes
abbrev pub all_from : (ℕ → Bool) → ℕ → ℕ → Bool
all_from p lo zero = true
all_from p lo (suc n) = p lo && all_from p (suc lo) n

pub all_from_law : (p : ℕ → Bool) (lo n b : ℕ) → all_from p lo n ≡ true → lo ≤ b → b < lo + n
    → p b ≡ true
all_from_law p lo zero b t h k = absurd (omega arith)
all_from_law p lo (suc n) b t h k =
    go (eqb b lo) refl
    (λ e. all_from_law p (suc lo) n b (and_right (p lo) _ t) (omega (arith, eqb-false b lo e)) (omega arith))
  where
    go : (x : Bool) → eqb b lo ≡ x → (eqb b lo ≡ false → p b ≡ true) → p b ≡ true
    go true e ih = rw (eqb-true b lo e) (and_left (p lo) _ t)
    go false e ih = ih e
