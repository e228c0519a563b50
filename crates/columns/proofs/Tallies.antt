-- Laws of counts, part by part.
--   count_add                             a count in two parts
--   Tallying, tallying_first, -next, -end     a list is counted from its front: with what is left it comes to all
use mathlib.Core.Path.{◌≡◌, refl, ap}
use mathlib.Core.Bool.{Bool}
use mathlib.Core.List.{List, ◌++◌}
use Prim.Native.Nat.{ℕ, zero, suc, ◌+◌, ◌≤◌}
use native.Mathlib.Nat.{add-zero}
use native.Mathlib.Omega.{arith}
use lib.Dec.{eqb}
use lib.ListN.{length, get_or, take, length-append, get_or-append, length-take}
use Rattle.std.proofs.lemmas.List.{get_or-take, get_or-append-add}
use Rattle.basics.specs.Words.{count}
use Rattle.basics.proofs.Counts.{count_next, count_small, count_same}

count_none : (p : ℕ → Bool) → count 0 p ≡ 0
unfolding count
count_none p = refl

pub count_add : (a b : ℕ) (p : ℕ → Bool) → count (a + b) p ≡ count a p + count b (λ i. p (a + i))
count_add a zero p = rw (add-zero, count_none (λ i. p (a + i))) (omega arith)
count_add a (suc b) p =
    let e : a + suc b ≡ a + b + 1 = omega arith in
    let f : suc b ≡ b + 1 = omega arith in
    rw (e, f, count_next (a + b) p, count_next b (λ i. p (a + i))) (omega (arith, count_add a b p))

-- how many entries are v
abbrev pub tallied : ℕ → List ℕ → ℕ
tallied v xs = count (length xs) (λ i. eqb (get_or xs i 0) v)

tallied_append : (v : ℕ) (x y : List ℕ) → tallied v (x ++ y) ≡ tallied v x + tallied v y
tallied_append v x y =
    let e = count_add (length x) (length y) (λ i. eqb (get_or (x ++ y) i 0) v) in
    let f = count_same (length x) (λ i. eqb (get_or (x ++ y) i 0) v) (λ i. eqb (get_or x i 0) v)
    (λ i l. ap (λ (k : ℕ). eqb k v) (get_or-append x y 0 i l)) in
    let g = count_same (length y) (λ i. eqb (get_or (x ++ y) (length x + i) 0) v) (λ i. eqb (get_or y i 0) v)
    (λ i l. ap (λ (k : ℕ). eqb k v) (get_or-append-add x y i 0)) in
    let h = ap (λ (k : ℕ). count k (λ i. eqb (get_or (x ++ y) i 0) v)) (length-append x y) in
    omega (arith, e, f, g, h)

pub record Tallying (v n c : ℕ) (a rest : List ℕ) : Type 0 where
  pub is : c + tallied v rest ≡ count n (λ i. eqb (get_or a i 0) v)

pub tallying_first : {v n : ℕ} {a rest : List ℕ} → rest ≡ take n a → n ≤ length a → Tallying v n 0 a rest
tallying_first {v} {n} {a} e h =
    let l : length (take n a) ≡ n = omega (arith, length-take n a) in
    let f = count_same n (λ i. eqb (get_or (take n a) i 0) v) (λ i. eqb (get_or a i 0) v)
    (λ i m. ap (λ (k : ℕ). eqb k v) (get_or-take n a i 0 m)) in
    let g = ap (λ (k : ℕ). count k (λ i. eqb (get_or (take n a) i 0) v)) l in
    record { is = rw e (omega (arith, f, g)) }

module _ {v n c : ℕ} {a rest : List ℕ} (g : Tallying v n c a rest) where
  pub tallying_next : {r : ℕ} (x y : List ℕ) → rest ≡ x ++ y → r ≡ tallied v x → Tallying v n (c + r) a y
  tallying_next {r} x y e h =
      let f = ap (tallied v) e in record { is = omega (arith, g.is, f, tallied_append v x y, h) }

  pub tally_small : {r : ℕ} (x y : List ℕ) → rest ≡ x ++ y → r ≡ tallied v x → c + r ≤ n
  tally_small {r} x y e h =
      let f = ap (tallied v) e in
      omega (arith, g.is, f, tallied_append v x y, h, count_small n (λ i. eqb (get_or a i 0) v))

  pub tallying_end : length rest ≡ 0 → c ≡ count n (λ i. eqb (get_or a i 0) v)
  tallying_end h =
      let f = ap (λ (k : ℕ). count k (λ i. eqb (get_or rest i 0) v)) h in
      omega (arith, g.is, f, count_none (λ i. eqb (get_or rest i 0) v))
