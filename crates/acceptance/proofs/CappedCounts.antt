-- How many alternatives, counted no further than 65.
-- Main names: cap_count; count_sum, count_thrice, count_either, count_with_or_then, count_once, an operator's number by
-- its byte; number_edge, number_while, number_join, the number of an expression from its operands'.
use Prim.Native.Nat.{ℕ, zero, suc, ◌+◌, ◌-◌, ◌*◌, ◌<◌, ◌≤◌, min}
use native.Mathlib.Omega.{arith}
use native.Mathlib.Nat.{le-mul_of_pos_right, mul_comm}
use mathlib.Core.Path.{◌≡◌, refl}
use mathlib.Core.Bool.{Bool, true, false}
use lib.Dec.{ltb}
use lib.ListN.{length-map}
use borrow.Author.Tests.{ltb-true, ltb-false}
use Rattle.alf.specs.Expressions.{Boolean, Edge, Vector, edge, join, while, Side}
use Rattle.alf.specs.Expressions.{Join, followed_by_join, either_order, with_or_then, any_order, with, or_else}
use Rattle.alf.specs.Decoder.{join_at}
use Rattle.alf.specs.Alternatives.{conditioned, alternatives, number_of_alternatives}
use Rattle.alf.proofs.Growth.{some_alternative}
use Rattle.alternatives.specs.Picks.{count_of}
use Rattle.alternatives.proofs.Picks.{count_rewritten}
use Rattle.alternatives.proofs.Finding.{at_byte}

-- the number of an expression's alternatives
pub number_edge : (e : Edge) (c : Boolean) → number_of_alternatives (edge e c) ≡ 1
unfolding number_of_alternatives alternatives
number_edge e c = refl

pub number_while : (s : Side) (p : Vector) (c : Boolean)
    → number_of_alternatives (while s p c) ≡ number_of_alternatives p
unfolding number_of_alternatives alternatives
number_while s p c = length-map (alternatives p) (conditioned c)

pub number_join : (j : Join) (p q : Vector)
    → number_of_alternatives (join j p q) ≡ count_of j (number_of_alternatives p) (number_of_alternatives q)
unfolding number_of_alternatives alternatives
number_join j p q = count_rewritten j (alternatives p) (alternatives q)

pub number_some : (p : Vector) → 0 < number_of_alternatives p
unfolding number_of_alternatives
number_some p = some_alternative p

-- a product, counted no further than 65
cap_product : (n m : ℕ) → 0 < n → 0 < m → min 65 (n * m) ≡ min 65 (min 65 n * min 65 m)
cap_product n m p q = go (ltb n 65) (ltb m 65) refl refl
  where
    large : (x y : ℕ) → 65 ≤ x → 0 < y → 65 ≤ x * y
    large x y l p = let h = le-mul_of_pos_right x p in omega arith

    all : 65 ≤ n * m → 65 ≤ min 65 n * min 65 m → min 65 (n * m) ≡ min 65 (min 65 n * min 65 m)
    all h k = omega arith

    go : (a b : Bool) → ltb n 65 ≡ a → ltb m 65 ≡ b → min 65 (n * m) ≡ min 65 (min 65 n * min 65 m)
    go true true e f =
        let x = ltb-true n 65 e in
        let y = ltb-true m 65 f in
        let u : min 65 n ≡ n = omega arith in
        let v : min 65 m ≡ m = omega arith in
        rw (u, v) refl
    go false b e f =
        let x = ltb-false n 65 e in
        all (large n m x q) (large (min 65 n) (min 65 m) (omega arith) (omega arith))
    go true false e f =
        let y = ltb-false m 65 f in
        all (rw (mul_comm n m) (large m n y p))
        (rw (mul_comm (min 65 n) (min 65 m)) (large (min 65 m) (min 65 n) (omega arith) (omega arith)))

pub cap_count : (j : Join) (n m : ℕ) → 0 < n → 0 < m
    → min 65 (count_of j n m) ≡ min 65 (count_of j (min 65 n) (min 65 m))
unfolding count_of
cap_count followed_by_join n m p q = cap_product n m p q
cap_count either_order n m p q = let e = cap_product n m p q in omega arith
cap_count with_or_then n m p q = let e = cap_product n m p q in omega arith
cap_count any_order n m p q = let e = cap_product n m p q in omega arith
cap_count with n m p q = cap_product n m p q
cap_count or_else n m p q = omega arith

once : (n m k : ℕ) → k < 6 → (k ≡ 5 → ⊥) → (k ≡ 3 → ⊥) → (k ≡ 1 → ⊥) → (k ≡ 2 → ⊥)
    → count_of (join_at k) n m ≡ n * m
unfolding join_at count_of
once n m zero l f g h i = refl
once n m (suc zero) l f g h i = absurd (h refl)
once n m (suc (suc zero)) l f g h i = absurd (i refl)
once n m (suc (suc (suc zero))) l f g h i = absurd (g refl)
once n m (suc (suc (suc (suc zero)))) l f g h i = refl
once n m (suc (suc (suc (suc (suc k))))) l f g h i = absurd (f (omega arith))

-- the numbers by the operator's byte
module _ {b : ℕ} (n m : ℕ) where
  pub count_sum : b ≡ 55 → count_of (join_at (b - 50)) n m ≡ n + m
  unfolding join_at count_of
  count_sum e = rw (at_byte e refl) refl

  pub count_thrice : b ≡ 53 → count_of (join_at (b - 50)) n m ≡ n * m + n * m + n * m
  unfolding join_at count_of
  count_thrice e = rw (at_byte e refl) refl

  pub count_either : b ≡ 51 → count_of (join_at (b - 50)) n m ≡ n * m + n * m
  unfolding join_at count_of
  count_either e = rw (at_byte e refl) refl

  pub count_with_or_then : b ≡ 52 → count_of (join_at (b - 50)) n m ≡ n * m + n * m
  unfolding join_at count_of
  count_with_or_then e = rw (at_byte e refl) refl

  pub count_once : 50 ≤ b → b < 56 → (b ≡ 55 → ⊥) → (b ≡ 53 → ⊥) → (b ≡ 51 → ⊥)
      → (b ≡ 52 → ⊥)
      → count_of (join_at (b - 50)) n m ≡ n * m
  count_once l u f g h i =
      once n m (b - 50) (omega arith) (λ e. f (omega arith)) (λ e. g (omega arith)) (λ e. h (omega arith))
      (λ e. i (omega arith))
