-- The digits of a number, written one by one: all but the last, and the last behind them.
--   none_put, digits_room, digits_push, digits_put    so many digits of a number
--   decimal_room, decimal_put                         as many as it needs
use Prim.Native.Nat.{ℕ, zero, suc, ◌+◌, ◌-◌, ◌/◌, ◌%◌, ◌<◌, ◌≤◌}
use native.Mathlib.Omega.{arith}
use mathlib.Core.Path.{◌≡◌, refl}
use mathlib.Core.List.{List, [], ◌∷◌, ◌++◌}
use lib.ListN.{length}
use Rattle.basics.specs.Memory.{Put, Room}
use Rattle.basics.proofs.PartByPart.{put_then, put_length}
use Rattle.figures.specs.Numbers.{digits, decimal}
use Rattle.figures.specs.Inner.{Wide}
use Rattle.figures.proofs.Digits.{digits_length}

-- the digits of a number: all but the last, and the last
pub none_put : {k : ℕ} (n : ℕ) {out : List ℕ} {at : ℕ} → k ≡ 0 → Put out at (digits k n) out at
unfolding digits
none_put n e = rw e (record { bytes = refl; next = omega arith })

digits_step : (k n : ℕ) → (k ≡ 0 → ⊥) → digits k n ≡ digits (k - 1) (n / 10) ++ ((48 + n % 10) ∷ [])
unfolding digits
digits_step zero n f = absurd (f refl)
digits_step (suc k) n f = let e : suc k - 1 ≡ k = omega arith in rw e refl

module _ {k : ℕ} (n : ℕ) (out : List ℕ) (at : ℕ) (some : k ≡ 0 → ⊥)
    (room : Room out at (digits k n)) where
  pub digits_room : Room out at (digits (k - 1) (n / 10))
  digits_room = omega (arith, digits_length k n, digits_length (k - 1) (n / 10))

  module _ {out' : List ℕ} {p : ℕ} (h : Put out at (digits (k - 1) (n / 10)) out' p) where
    pub digits_push : p < length out'
    digits_push =
        let one : 1 ≤ k = pos k some in
        omega (arith, h.next, put_length h, digits_length k n, digits_length (k - 1) (n / 10))
      where
        pos : (j : ℕ) → (j ≡ 0 → ⊥) → 1 ≤ j
        pos zero f = absurd (f refl)
        pos (suc j) f = omega arith

    pub digits_put : {d : ℕ} {out'' : List ℕ} {q : ℕ} → d ≡ 48 + n % 10 → Put out' p (d ∷ []) out'' q
        → Put out at (digits k n) out'' q
    digits_put e u = rw (digits_step k n some) (put_then h (rw e at u))

pub decimal_room : {n w : ℕ} (out : List ℕ) (at : ℕ) → Wide n w → Room out at (decimal n)
    → Room out at (digits w n)
unfolding decimal
decimal_room out at h r = rw h.is r

pub decimal_put : {n w at r : ℕ} {out out' : List ℕ} → Wide n w → Put out at (digits w n) out' r
    → Put out at (decimal n) out' r
unfolding decimal
decimal_put h p = rw h.is at p
