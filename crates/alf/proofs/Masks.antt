-- A set of numbers below n as the bits of one number.
-- mask_below: nothing stands above bit n-1. mask_bit: bit i says whether i is in the set. mask_only: no other number
-- does.
-- mask_ones: the number of ones is the number of members. mask_set, mask_keep: one place more. changes_ones,
-- changes_first: of the variables that change at a row.
use Rattle.std.specs.Prelude.{if◌then◌else◌}
use mathlib.Core.Path.{◌≡◌, refl, ◌∙◌, sym, ap, ap₂}
use mathlib.Core.Bool.{Bool, true, false}
use mathlib.Core.Logic.{◌⊎◌, inl, inr}
use mathlib.Core.List.{List}
use Prim.Native.Nat.{ℕ, zero, suc, ◌+◌, ◌-◌, ◌*◌, ◌/◌, ◌%◌, ◌^◌, ◌≤◌, ◌<◌}
use native.Mathlib.Numerals.{add-one, one-add}
use native.Mathlib.Nat.{eq-or-lt_of_le, le_of_suc-le-suc, pow-suc, mod-lt}
use native.Mathlib.Omega.{arith}
use lib.Arith.{lt-one}
use lib.Bits.{bit_or, or_shifted_r}
use lib.Count.{ones, ones_cat}
use lib.Dec.{lit<}
use lib.Pow.{pow_pos, split, shr_mod, field, mod-mod-pow, high, low, shl_exact}
use Rattle.basics.specs.Words.{count}
use Rattle.alf.specs.Traces.{mask, changed, change_mask, change_count}

-- 1 for a member, 0 for any other
abbrev pub bit : Bool → ℕ
bit b = if b then 1 else 0

bit_weight : (b : Bool) (w : ℕ) → (if b then w else 0) ≡ bit b * w
bit_weight true w = omega arith
bit_weight false w = omega arith

bit_small : (b : Bool) → bit b % 2 ≡ bit b
bit_small true = refl
bit_small false = refl

bit_ones : (b : Bool) → ones (bit b) ≡ bit b
unfolding ones
bit_ones true = refl
bit_ones false = refl

no_ones : ones 0 ≡ 0
unfolding ones
no_ones = refl

mask_none : (p : ℕ → Bool) → mask 0 p ≡ 0
unfolding mask
mask_none p = refl

mask_suc : (n : ℕ) (p : ℕ → Bool) → mask (suc n) p ≡ bit (p n) * 2 ^ n + mask n p
unfolding mask
mask_suc n p = ap (λ (x : ℕ). x + mask n p) (bit_weight (p n) (2 ^ n))

weight_below : (b : Bool) (w : ℕ) → (if b then w else 0) + w ≤ w + w
weight_below true w = omega arith
weight_below false w = omega arith

pub mask_below : (n : ℕ) (p : ℕ → Bool) → mask n p < 2 ^ n
unfolding mask
mask_below zero p = lit< tt
mask_below (suc n) p = rw pow-suc (omega (arith, mask_below n p, weight_below (p n) (2 ^ n)))

pub mask_ones : (n : ℕ) (p : ℕ → Bool) → ones (mask n p) ≡ count n p
unfolding count
mask_ones zero p = ap ones (mask_none p) ∙ no_ones
mask_ones (suc n) p =
    let e = mask_ones n p in
    let b = bit_ones (p n) in
    rw mask_suc (ones_cat n (bit (p n)) (mask n p) (mask_below n p) ∙ omega arith)

bit_low : (n i x : ℕ) → i < n → x % 2 ^ n / 2 ^ i % 2 ≡ x / 2 ^ i % 2
bit_low n i x h =
    let e : n ≡ (n - (1 + i)) + (1 + i) = omega arith in
    sym (field (x % 2 ^ n) 1 i)
    ∙ ap (λ (y : ℕ). y / 2 ^ i)
    (ap (λ (m : ℕ). x % 2 ^ m % 2 ^ (1 + i)) e ∙ mod-mod-pow x (n - (1 + i)) (1 + i))
    ∙ field x 1 i

bit_step : (n i : ℕ) (p : ℕ → Bool) → (i < n → mask n p / 2 ^ i % 2 ≡ bit (p i)) → (i ≡ n) ⊎ (i < n)
    → (bit (p n) * 2 ^ n + mask n p) / 2 ^ i % 2 ≡ bit (p i)
bit_step n i p k (inl e) = rw e (ap (λ (x : ℕ). x % 2) (high (bit (p n)) n (mask_below n p)) ∙ bit_small (p n))
bit_step n i p k (inr h) =
    sym (bit_low n i (bit (p n) * 2 ^ n + mask n p) h)
    ∙ ap (λ (y : ℕ). y / 2 ^ i % 2) (low (bit (p n)) n (mask_below n p))
    ∙ k h

pub mask_bit : (n i : ℕ) (p : ℕ → Bool) → i < n → mask n p / 2 ^ i % 2 ≡ bit (p i)
mask_bit zero i p h = absurd (omega arith)
mask_bit (suc n) i p h = rw mask_suc (bit_step n i p (mask_bit n i p) (eq-or-lt_of_le (le_of_suc-le-suc h)))

pub mask_only : (n m : ℕ) (p : ℕ → Bool) → m < 2 ^ n → ((i : ℕ) → i < n → m / 2 ^ i % 2 ≡ bit (p i))
    → m ≡ mask n p
mask_only zero m p h k = lt-one h ∙ sym (mask_none p)
mask_only (suc n) m p h k =
    rw mask_suc
    (sym (split m n)
    ∙ ap₂ (λ (q r : ℕ). q * 2 ^ n + r)
    (sym (shr_mod 1 n (rw one-add h)) ∙ k n (omega arith))
    (mask_only n (m % 2 ^ n) p (mod-lt m (pow_pos n)) (λ i l. bit_low n i m l ∙ k i (omega arith))))

-- with bit i put in, and with nothing put in
pub mask_set : (i m : ℕ) (p : ℕ → Bool) → i < 32 → m ≡ mask i p → p i ≡ true
    → bit_or m ((1 * 2 ^ i) % 2 ^ 32) ≡ mask (i + 1) p
mask_set i m p h e t =
    rw (add-one, mask_suc, t)
    (ap₂ bit_or e (shl_exact 1 i 32 (lit< tt) (omega arith)) ∙ or_shifted_r 1 i (mask i p) (mask_below i p))

pub mask_keep : (i m : ℕ) (p : ℕ → Bool) → m ≡ mask i p → p i ≡ false → m ≡ mask (i + 1) p
mask_keep i m p e t = rw (add-one, mask_suc, t) (e ∙ omega arith)

-- The set of changed variables of a row: its ones are as many as the states that differ; row 0 has none.
pub changes_ones : (names : ℕ) (states : List ℕ) (r : ℕ)
    → ones (change_mask names states r) ≡ change_count names states r
unfolding change_mask change_count
changes_ones names states r = mask_ones names (changed names states r)

empty_mask : (n : ℕ) (p : ℕ → Bool) → ((i : ℕ) → p i ≡ false) → mask n p ≡ 0
unfolding mask
empty_mask zero p h = refl
empty_mask (suc n) p h = let e = empty_mask n p h in rw (h n) (omega arith)

pub changes_first : (names : ℕ) (states : List ℕ) → change_mask names states 0 ≡ 0
unfolding change_mask changed
changes_first names states = empty_mask names _ (λ i. refl)
