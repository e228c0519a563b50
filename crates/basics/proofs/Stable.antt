-- What cannot fail holds: of orders, equations and tests. Main names: lt_stable, le_stable, eq_stable, true_stable.
use mathlib.Core.Path.{◌≡◌, refl}
use mathlib.Core.Bool.{Bool, true, false}
use mathlib.Core.Logic.{◌⊎◌, inl, inr}
use Prim.Native.Nat.{ℕ, ◌<◌, ◌≤◌}
use native.Mathlib.Omega.{arith}
use Rattle.basics.proofs.Bools.{never, equal?, below?}

module _ (x y : ℕ) where
  pub lt_stable : ((x < y → ⊥) → ⊥) → x < y
  lt_stable n = go (below? x y)
    where
      go : (x < y) ⊎ (y ≤ x) → x < y
      go (inl l) = l
      go (inr l) = absurd (n (λ k. omega arith))

  pub le_stable : ((x ≤ y → ⊥) → ⊥) → x ≤ y
  le_stable n = go (below? y x)
    where
      go : (y < x) ⊎ (x ≤ y) → x ≤ y
      go (inl l) = absurd (n (λ k. omega arith))
      go (inr l) = l

  pub eq_stable : ((x ≡ y → ⊥) → ⊥) → x ≡ y
  eq_stable n = go (equal? x y)
    where
      go : (x ≡ y) ⊎ (x ≡ y → ⊥) → x ≡ y
      go (inl e) = e
      go (inr d) = absurd (n d)

pub true_stable : (b : Bool) → ((b ≡ true → ⊥) → ⊥) → b ≡ true
true_stable true n = refl
true_stable false n = absurd (n (λ e. never e))
