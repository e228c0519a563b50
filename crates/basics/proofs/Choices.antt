-- Laws of choices: what holds of both arms holds of the one taken; a test that is computed over every number below n.
-- Main names: if_all, every, every_at.
use Rattle.std.specs.Prelude.{if◌then◌else◌}
use Prim.Native.Nat.{ℕ, zero, suc, ◌<◌}
use native.Mathlib.Omega.{arith}
use mathlib.Core.Path.{◌≡◌, refl}
use mathlib.Core.Bool.{Bool, true, false, ◌&&◌}
use lib.Dec.{eqb}
use borrow.Author.Tests.{eqb-true, eqb-false}
use Rattle.basics.proofs.Bools.{and_left, and_right}

pub if_all : {A : Type 0} (P : A → Type 0) (q : Bool) {x y : A} → (q ≡ true → P x) → (q ≡ false → P y)
    → P (if q then x else y)
if_all P true f g = f refl
if_all P false f g = g refl

-- p 0, p 1, .. up to, not including, p n
unfoldable pub every : ℕ → (ℕ → Bool) → Bool
every zero p = true
every (suc n) p = every n p && p n

pub every_at : (n : ℕ) (p : ℕ → Bool) → every n p ≡ true → (k : ℕ) → k < n → p k ≡ true
unfolding every
every_at zero p h k l = absurd (omega arith)
every_at (suc n) p h k l = go (every_at n p (and_left (every n p) (p n) h) k) (eqb k n) refl
  where
    go : (k < n → p k ≡ true) → (q : Bool) → eqb k n ≡ q → p k ≡ true
    go below true e = rw (eqb-true k n e) (and_right (every n p) (p n) h)
    go below false e = let d = eqb-false k n e in below (omega arith)
