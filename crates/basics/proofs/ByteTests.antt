-- A test of a byte that is the same on a range of bytes, shown by one computation; one byte, the key, may be left out.
-- Main names: ranged, keyed.
use mathlib.Core.Path.{◌≡◌, refl, sym}
use mathlib.Core.Bool.{Bool, true, false, ◌||◌, beq}
use Prim.Native.Nat.{ℕ, ◌+◌, ◌≤◌, ◌<◌}
use lib.Dec.{eqb}
use borrow.Author.Tests.{ne_eqb}
use Rattle.basics.proofs.Ranges.{all_from, all_from_law}

same_bool : (v w : Bool) → beq v w ≡ true → v ≡ w
same_bool true true e = refl
same_bool true false e = sym e
same_bool false true e = e
same_bool false false e = refl

-- on n bytes from lo on, but for the key, the test f gives v
pub ranged :
    (f : ℕ → Bool) (v : Bool) (key lo n : ℕ) →
    all_from (λ k. eqb k key || beq v (f k)) lo n ≡ true →
    (b : ℕ) →
    (b ≡ key → ⊥) →
    lo ≤ b →
    b < lo + n →
    v ≡ f b
ranged f v key lo n t b other h k =
    same_bool v (f b) (rw (ne_eqb b key other) at (all_from_law (λ k. eqb k key || beq v (f k)) lo n b t h k))

-- at the key it gives what it gives there
pub keyed : (f : ℕ → Bool) (v : Bool) (key : ℕ) → v ≡ f key → (b : ℕ) → b ≡ key → v ≡ f b
keyed f v key t b e = rw e t
