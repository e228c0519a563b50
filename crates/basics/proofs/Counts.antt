-- How many numbers pass a test, one number after the other.
--   one_small     one number counts at most once
--   count_next    one number more
--   count_small   there are no more than numbers
--   count_same    of two tests that agree below n
use Rattle.std.specs.Prelude.{if◌then◌else◌}
use mathlib.Core.Path.{◌≡◌, refl}
use mathlib.Core.Bool.{Bool, true, false}
use Prim.Native.Nat.{ℕ, zero, suc, ◌+◌, ◌<◌, ◌≤◌}
use native.Mathlib.Numerals.{add-one}
use native.Mathlib.Omega.{arith}
use Rattle.basics.specs.Words.{count}

pub one_small : (b : Bool) → (if b then 1 else 0) ≤ 1
one_small true = omega arith
one_small false = omega arith

pub count_next : (n : ℕ) (p : ℕ → Bool) → count (n + 1) p ≡ count n p + (if p n then 1 else 0)
unfolding count
count_next n p = rw add-one refl

pub count_small : (n : ℕ) (p : ℕ → Bool) → count n p ≤ n
unfolding count
count_small zero p = omega arith
count_small (suc n) p = let e = count_small n p in let f = one_small (p n) in omega arith

pub count_same : (n : ℕ) (p q : ℕ → Bool) → ((i : ℕ) → i < n → p i ≡ q i) → count n p ≡ count n q
unfolding count
count_same zero p q h = refl
count_same (suc n) p q h = rw (count_same n p q (λ i l. h i (omega arith)), h n (omega arith)) refl
