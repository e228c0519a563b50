-- Laws of `some`, one number after the other.
--   some_none, some_step, some_next, some_found     no number yet; one more, where none passed before; one that passes
--   Seeking, seeking_first, -found, -next, -end     a loop over the numbers below m that stops where one passes
use Prim.Native.Nat.{ℕ, zero, suc, ◌+◌, ◌<◌, ◌≤◌}
use native.Mathlib.Omega.{arith}
use native.Mathlib.Numerals.{add-one}
use mathlib.Core.Path.{◌≡◌, refl, ap, sym, ◌∙◌}
use mathlib.Core.Bool.{Bool, true, false, ◌||◌}
use mathlib.Core.Logic.{◌⊎◌, inl, inr}
use Rattle.basics.specs.Words.{some}
use Rattle.basics.proofs.Bools.{equal?, or_yes}

module _ (p : ℕ → Bool) where
  pub some_none : some 0 p ≡ false
  unfolding some
  some_none = refl

  pub some_step : (n : ℕ) → some n p ≡ false → some (n + 1) p ≡ p n
  unfolding some
  some_step n e = rw (add-one, e) refl

  pub some_next : (n : ℕ) → some n p ≡ false → p n ≡ false → some (n + 1) p ≡ false
  some_next n e f = some_step n e ∙ f

  pub some_found : (n i : ℕ) → i < n → p i ≡ true → some n p ≡ true
  unfolding some
  some_found zero i l h = absurd (omega arith)
  some_found (suc n) i l h = go (some_found n i) (equal? i n)
    where
      go : (i < n → p i ≡ true → some n p ≡ true) → (i ≡ n) ⊎ (i ≡ n → ⊥)
          → (some n p || p n) ≡ true
      go r (inl e) = ap (λ (q : Bool). some n p || q) (ap p (sym e) ∙ h) ∙ or_yes (some n p)
      go r (inr f) = rw (r (omega arith) h) refl

pub record Seeking (p : ℕ → Bool) (m i : ℕ) : Type 0 where
  pub within : i ≤ m
  pub none : some i p ≡ false

pub seeking_first : {p : ℕ → Bool} {m : ℕ} → Seeking p m 0
seeking_first {p} = record { within = omega arith; none = some_none p }

module _ {p : ℕ → Bool} {m i : ℕ} (g : Seeking p m i) {r : Bool} where
  pub seeking_found : i < m → r ≡ p i → r ≡ true → true ≡ some m p
  seeking_found l e f = sym (some_found p m i l (sym e ∙ f))

  pub seeking_next : i < m → r ≡ p i → r ≡ false → Seeking p m (i + 1)
  seeking_next l e f = record { within = omega arith; none = some_next p i g.none (sym e ∙ f) }

pub seeking_end : {p : ℕ → Bool} {m i : ℕ} → Seeking p m i → m ≤ i → false ≡ some m p
seeking_end {p} {m} {i} g l = let e : i ≡ m = omega (arith, g.within) in sym (rw e at g.none)
