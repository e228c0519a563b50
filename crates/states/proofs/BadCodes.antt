-- Refusal 15 of a list of states is given exactly at the place found, and never where that is the length.
--   codes_more          one more code is none above 7
--   bounds_after        one more code is none above the larger bound
--   Bounded, Four, four_end, bounds_all     four parts side by side, and what is left
--   bad_given, bad_never
use mathlib.Core.Path.{◌≡◌, ap}
use mathlib.Core.List.{List}
use mathlib.Core.Logic.{◌⊎◌, inl, inr}
use Prim.Native.Nat.{ℕ, ◌+◌, ◌-◌, ◌*◌, ◌<◌, ◌≤◌, max}
use native.Mathlib.Omega.{arith}
use lib.ListN.{length, get_or, drop}
use Rattle.std.proofs.Common.{length-drop}
use Rattle.std.proofs.lemmas.List.{get_or-drop}
use Rattle.alf.specs.Refusals.{bad_code}
use Rattle.basics.proofs.Bools.{equal?, below?}
use Rattle.states.specs.FirstBadCode.{FirstBad, Bounds, BoundsTo}

pub codes_more : (states : List ℕ) (n : ℕ) → ((i : ℕ) → i < n → get_or states i 0 < 8)
    → get_or states n 0 ≤ 7
    → (i : ℕ) → i < n + 1 → get_or states i 0 < 8
codes_more states n h l i m = go (equal? i n)
  where
    go : (i ≡ n) ⊎ (i ≡ n → ⊥) → get_or states i 0 < 8
    go (inl e) = let f = ap (λ (k : ℕ). get_or states k 0) e in omega arith
    go (inr d) = h i (omega (arith, d))

pub bounds_after : (states : List ℕ) (n m r : ℕ) → ((i : ℕ) → i < n → get_or states i 0 ≤ m)
    → r ≡ max m (get_or states n 0)
    → (i : ℕ) → i < n + 1 → get_or states i 0 ≤ r
bounds_after states n m r h e i k = go (equal? i n)
  where
    go : (i ≡ n) ⊎ (i ≡ n → ⊥) → get_or states i 0 ≤ r
    go (inl d) = let g = ap (λ (j : ℕ). get_or states j 0) d in omega arith
    go (inr d) = omega (arith, h i (omega (arith, d)))

-- of q entries from o on those before n are bounded by m
pub record Bounded (states : List ℕ) (o n m : ℕ) : Type 0 where
  pub all : (i : ℕ) → i < n → get_or states (o + i) 0 ≤ m

pub bounded_none : (states : List ℕ) (o m : ℕ) → Bounded states o 0 m
bounded_none states o m = record { all = λ i h. absurd (omega arith) }

pub bounded_next : {states : List ℕ} {o n m : ℕ} (r : ℕ) → Bounded states o n m → r ≡ max m (get_or states (o + n) 0)
    → Bounded states o (n + 1) r
bounded_next {states} {o} {n} {m} r g e = record { all = λ i h. go i h (equal? i n) }
  where
    go : (i : ℕ) → i < n + 1 → (i ≡ n) ⊎ (i ≡ n → ⊥) → get_or states (o + i) 0 ≤ r
    go i h (inl f) = let k = ap (λ (j : ℕ). get_or states (o + j) 0) f in omega arith
    go i h (inr d) = omega (arith, g.all i (omega arith))

-- four parts of q entries side by side
pub record Four (states : List ℕ) (q i a b c d : ℕ) : Type 0 where
  pub within : i ≤ q
  pub first : Bounded states 0 i a
  pub second : Bounded states q i b
  pub third : Bounded states (2 * q) i c
  pub fourth : Bounded states (3 * q) i d

pub four_first : {states : List ℕ} {q : ℕ} → Four states q 0 0 0 0 0
four_first {states} {q} =
    record {
      within = omega arith;
      first = bounded_none states 0 0;
      second = bounded_none states q 0;
      third = bounded_none states (2 * q) 0;
      fourth = bounded_none states (3 * q) 0;
    }

pub four_next : {states : List ℕ} {q i a b c d a' b' c' d' : ℕ} → Four states q i a b c d → i < q
    → a' ≡ max a (get_or states i 0) → b' ≡ max b (get_or states (q + i) 0)
    → c' ≡ max c (get_or states (2 * q + i) 0) → d' ≡ max d (get_or states (3 * q + i) 0)
    → Four states q (i + 1) a' b' c' d'
four_next {states} {q} {i} g l x y z w =
    let e : ◌≡◌ {A = ℕ} (0 + i) i = omega arith in
    record {
      within = omega arith;
      first = bounded_next _ g.first (rw e x);
      second = bounded_next _ g.second y;
      third = bounded_next _ g.third z;
      fourth = bounded_next _ g.fourth w;
    }

pub four_end : {states : List ℕ} {q i a b c d r : ℕ} → Four states q i a b c d → q ≤ i
    → r ≡ max (max a b) (max c d) → BoundsTo states (4 * q) r
four_end {states} {q} {i} {a} {b} {c} {d} {r} g h e =
    record { all = λ j l. go j l (below? j q) (below? j (2 * q)) (below? j (3 * q)) }
  where
    part : (o m j : ℕ) → Bounded states o i m → o ≤ j → j < o + q → m ≤ r → get_or states j 0 ≤ r
    part o m j p k l u =
        let f : o + (j - o) ≡ j = omega arith in
        let v = rw f at (p.all (j - o) (omega arith)) in
        omega arith

    go : (j : ℕ) → j < 4 * q → (j < q) ⊎ (q ≤ j) → (j < 2 * q) ⊎ (2 * q ≤ j) → (j < 3 * q) ⊎ (3 * q ≤ j)
        → get_or states j 0 ≤ r
    go j l (inl x) y z = part 0 a j g.first (omega arith) (omega arith) (omega arith)
    go j l (inr x) (inl y) z = part q b j g.second x (omega arith) (omega arith)
    go j l (inr x) (inr y) (inl z) = part (2 * q) c j g.third y (omega arith) (omega arith)
    go j l (inr x) (inr y) (inr z) = part (3 * q) d j g.fourth z (omega arith) (omega arith)

-- the first ones and the others are all
pub bounds_all : {states : List ℕ} {n a b r : ℕ} → BoundsTo states n a → Bounds (drop n states) b → r ≡ max a b
    → Bounds states r
bounds_all {states} {n} {a} {b} {r} g h e = record { all = λ i l. go i l (below? i n) }
  where
    go : (i : ℕ) → i < length states → (i < n) ⊎ (n ≤ i) → get_or states i 0 ≤ r
    go i l (inl x) = omega (arith, g.all i x)
    go i l (inr x) =
        let f : n + (i - n) ≡ i = omega arith in
        let u = h.all (i - n) (rw length-drop (omega arith)) in
        let v = rw (get_or-drop n states (i - n) 0, f) at u in
        omega arith

module _ {states : List ℕ} {r : ℕ} (b : FirstBad states r) where
  pub bad_given : r < length states → bad_code states r
  bad_given l = record { given = (l, b.there l); before = λ i m so. omega (arith, b.before i m, so.1) }

  pub bad_never : r ≡ length states → (p : ℕ) → bad_code states p → ⊥
  bad_never e p f = omega (arith, b.before p (omega (arith, f.given.0)), f.given.1)
