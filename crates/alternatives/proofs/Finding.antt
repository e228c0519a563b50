-- Alternative t of those that a byte makes, by the cases of the code that finds it.
-- Main names: block_small; on_either, on_with_or_then, on_any_together, on_any_back behind the first block; in_left,
-- in_right, in_later, in_together, in_with, in_chained.
use Prim.Native.Nat.{ℕ, zero, suc, ◌+◌, ◌-◌, ◌*◌, ◌/◌, ◌%◌, ◌<◌, ◌≤◌}
use native.Mathlib.Omega.{arith}
use native.Mathlib.Nat.{mul-le-mul}
use mathlib.Core.Path.{◌≡◌, refl, ap, ◌∙◌, subst}
use Rattle.alf.specs.Expressions.{Join, any_order}
use Rattle.alf.specs.Decoder.{join_at}
use Rattle.alternatives.specs.declared.picking.How.{How}
use Rattle.alternatives.specs.declared.picking.How.TheVariants.{Left, Right, LeftFirst, RightFirst, Together}
use Rattle.alternatives.specs.Picks.{count_of, Picked, Operands, Picking, PickingOn}
use Rattle.alternatives.proofs.Picks.{picked_left, picked_right, first_chained, first_with_or_then, first_with}
use Rattle.alternatives.proofs.Picks.{second_either, second_with_or_then, second_any, third_any}

pub block_small : {b n m : ℕ} → Operands b n m → n * m ≤ 4096
block_small o = mul-le-mul o.few_left o.few_right

-- the operator at a byte
pub at_byte : {b k : ℕ} {j : Join} → b ≡ k → join_at (k - 50) ≡ j → join_at (b - 50) ≡ j
at_byte {b} {k} e d = ap (λ (x : ℕ). join_at (x - 50)) e ∙ d

module _ {b n m v : ℕ} (h : PickingOn b n m v) where
  -- the number of alternatives, once the operator is known
  counted : {j : Join} → join_at (b - 50) ≡ j → n * m + v < count_of j n m
  counted e = rw e at h.there

  pub on_either : b ≡ 51 → Picked (join_at (b - 50)) n m (n * m + v) RightFirst (v % n) (v / n)
  unfolding join_at count_of
  on_either e =
      let j = at_byte e refl in
      let l = counted j in
      rw j (second_either n m v h.operands.some_left h.operands.some_right (omega arith))

  pub on_with_or_then : b ≡ 52 → Picked (join_at (b - 50)) n m (n * m + v) LeftFirst (v / m) (v % m)
  unfolding join_at count_of
  on_with_or_then e =
      let j = at_byte e refl in
      let l = counted j in
      rw j (second_with_or_then n m v h.operands.some_left h.operands.some_right (omega arith))

  -- another operator has no second block, but for <&>
  only_any : (k : ℕ) → k < 5 → (k ≡ 1 → ⊥) → (k ≡ 2 → ⊥) → n * m + v < count_of (join_at k) n m
      → join_at k ≡ any_order
  unfolding join_at count_of
  only_any zero l f g o = absurd (omega arith)
  only_any (suc zero) l f g o = absurd (f refl)
  only_any (suc (suc zero)) l f g o = absurd (g refl)
  only_any (suc (suc (suc zero))) l f g o = refl
  only_any (suc (suc (suc (suc zero)))) l f g o = absurd (omega arith)
  only_any (suc (suc (suc (suc (suc k))))) l f g o = absurd (omega arith)

  is_any : (b ≡ 51 → ⊥) → (b ≡ 52 → ⊥) → join_at (b - 50) ≡ any_order
  is_any f g =
      let l = h.product in
      let k = h.operands.joins in
      only_any (b - 50) (omega arith) (λ e. f (omega arith)) (λ e. g (omega arith)) h.there

  pub on_any_together : (b ≡ 51 → ⊥) → (b ≡ 52 → ⊥) → v < n * m
      → Picked (join_at (b - 50)) n m (n * m + v) Together (v / m) (v % m)
  on_any_together f g l = rw (is_any f g) (second_any n m v h.operands.some_left h.operands.some_right l)

  pub on_any_back : (b ≡ 51 → ⊥) → (b ≡ 52 → ⊥) → n * m ≤ v
      → Picked (join_at (b - 50)) n m (n * m + v) RightFirst ((v - n * m) % n) ((v - n * m) / n)
  unfolding count_of
  on_any_back f g l =
      let j = is_any f g in
      let o = counted j in
      let e : n * m + (v - n * m) ≡ v = omega arith in
      rw j (subst (λ (x : ℕ). Picked any_order n m (n * m + x) RightFirst ((v - n * m) % n) ((v - n * m) / n)) e
      (third_any n m (v - n * m) h.operands.some_left h.operands.some_right (omega arith)))

module _ {b n m t : ℕ} (h : Picking b n m t) where
  pub in_left : b ≡ 55 → t < n → Picked (join_at (b - 50)) n m t Left t 0
  unfolding join_at
  in_left e l = rw (at_byte e refl) (picked_left n m t h.operands.some_left h.operands.some_right l)

  pub in_right : b ≡ 55 → n ≤ t → Picked (join_at (b - 50)) n m t Right 0 (t - n)
  unfolding join_at
  in_right e l =
      let j = at_byte e refl in
      rw j (picked_right n m t h.operands.some_left h.operands.some_right l (rw j at h.there))

  pub in_later : (b ≡ 55 → ⊥) → n * m ≤ t → PickingOn b n m (t - n * m)
  in_later f l =
      let e : n * m + (t - n * m) ≡ t = omega arith in
      record { operands = h.operands; product = omega (arith, h.operands.no_more); there = rw e h.there }

  pub later : {how : How} {i k : ℕ} → n * m ≤ t → Picked (join_at (b - 50)) n m (n * m + (t - n * m)) how i k
      → Picked (join_at (b - 50)) n m t how i k
  later l p = let e : n * m + (t - n * m) ≡ t = omega arith in rw e at p

  pub in_together : b ≡ 52 → t < n * m → Picked (join_at (b - 50)) n m t Together (t / m) (t % m)
  unfolding join_at
  in_together e l =
      rw (at_byte e refl) (first_with_or_then n m t h.operands.some_left h.operands.some_right l)

  pub in_with : b ≡ 54 → t < n * m → Picked (join_at (b - 50)) n m t Together (t / m) (t % m)
  unfolding join_at
  in_with e l = rw (at_byte e refl) (first_with n m t h.operands.some_left h.operands.some_right l)

  pub in_chained : (b ≡ 55 → ⊥) → (b ≡ 52 → ⊥) → (b ≡ 54 → ⊥) → t < n * m
      → Picked (join_at (b - 50)) n m t LeftFirst (t / m) (t % m)
  in_chained f g k l =
      let o = h.operands.joins in
      let u = h.operands.no_more in
      first_chained n m t h.operands.some_left h.operands.some_right l (b - 50) (omega arith)
      (λ e. g (omega arith)) (λ e. k (omega arith))
