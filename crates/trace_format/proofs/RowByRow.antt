-- Rows of k entries each, one behind the other, and times that rise.
--   next_to, room_for   the place behind row r, and that it is not behind the last row's end
--   codes_bound         how many codes a trace has at most
--   not_above           a time that is not above the last one: there is a row before it, and its time is no less
use mathlib.Core.Path.{◌≡◌, refl}
use mathlib.Core.Bool.{Bool, true, false}
use Prim.Native.Nat.{ℕ, suc, ◌+◌, ◌*◌, ◌≤◌, ◌<◌}
use native.Mathlib.Omega.{arith}
use native.Mathlib.Nat.{add-mul, one-mul, mul-le-mul, mul-le-mul_right}
use native.Mathlib.Numerals.{add-one}
use lib.Dec.{ltb}
use borrow.Author.Tests.{ltb-true, ltb-false}

pub next_to : (r k : ℕ) → r * k + k ≡ (r + 1) * k
next_to r k = rw (add-mul r 1 k, one-mul)

pub room_for : (r n k : ℕ) → r < n → r * k + k ≤ n * k
room_for r n k h =
    let e : r * k + k ≡ suc r * k = rw (← add-one r, add-mul r 1 k, one-mul) in
    rw e (mul-le-mul_right k h)

pub codes_bound : {k n : ℕ} → n ≤ 65535 → k ≤ 32 → n * k ≤ 2097120
codes_bound h l = mul-le-mul h l

pub not_above : (r a b : ℕ) → ((1 ≤ r → a < b) → ⊥) → (1 ≤ r) × (b ≤ a)
not_above r a b n = (some (ltb 0 r) refl, least (ltb a b) refl)
  where
    some : (x : Bool) → ltb 0 r ≡ x → 1 ≤ r
    some true e = ltb-true 0 r e
    some false e = absurd (n (λ h. absurd (omega (arith, ltb-false 0 r e))))

    least : (x : Bool) → ltb a b ≡ x → b ≤ a
    least true e = absurd (n (λ h. ltb-true a b e))
    least false e = ltb-false a b e
