-- Answers on windows, with the rows counted from elsewhere. `to` takes a row's number to its number on the other side;
-- it keeps distances. What holds of the operands' answers on the windows up to row `hi` holds of an operator's.
--   As, Off                                  two answers on windows are the same; no on windows without an event
--   leaf_as, operated_as                     leaves and operators
--   unmoved, moved                           every row as it is; the rows from `first` on
use Prim.Native.Nat.{ℕ, ◌+◌, ◌-◌, ◌<◌, ◌≤◌, min, max}
use native.Mathlib.Omega.{arith}
use mathlib.Core.Path.{◌≡◌, refl, ap}
use mathlib.Core.Logic.{◌⊎◌, inl, inr}
use borrow.Author.Tests.{lt-ltb, le-ltb, eq-eqb, ne_eqb}
use Rattle.alf.specs.Expressions.{Edge}
use Rattle.alf.specs.Expressions.{Join, followed_by_join, either_order, with_or_then, any_order, with, or_else}
use Rattle.alf.specs.Windows.{Window, certainty, held, followed_by, either, together, joined}
use Rattle.alf.specs.Decoder.{edge_at, join_at}
use Rattle.basics.proofs.Bools.{below?, equal?}
use Rattle.basics.proofs.Extremes.{greatest_same, least_same}
use Rattle.answer_table.specs.Tables.{edge_over, leaf_over_lem, operated}

abbrev pub Off : Window → Type 0
Off P = (x : ℕ) → P x x ≡ 0

abbrev pub Keeps : (ℕ → ℕ) → Type 0
Keeps to = (x i : ℕ) → to (x + i) ≡ to x + i

pub unmoved : Keeps (λ x. x)
unmoved x i = refl

pub moved : (first : ℕ) → Keeps (λ x. first + x)
moved first x i = omega arith

-- the same on the windows that end at row hi or before; the same states at the rows up to hi
pub record As (to : ℕ → ℕ) (hi : ℕ) (P Q : Window) : Type 0 where
  pub is : (x y : ℕ) → x < y → y ≤ hi → P x y ≡ Q (to x) (to y)

pub record Like (to : ℕ → ℕ) (hi : ℕ) (c d : ℕ → ℕ) : Type 0 where
  pub is : (x : ℕ) → x ≤ hi → c x ≡ d (to x)

module _ (to : ℕ → ℕ) (keeps : Keeps to) (hi a b : ℕ) (some : a < b) (last : b ≤ hi) where
  width : to b ≡ to a + (b - a)
  width = let e : a + (b - a) ≡ b = omega arith in rw e at (keeps a (b - a))

  behind : (i : ℕ) → to (a + 1 + i) ≡ to a + 1 + i
  behind i = let e = keeps (a + 1) i in let d = keeps a 1 in omega arith

  held_as : {c d : ℕ → ℕ} → Like to hi c d → held c a b ≡ held d (to a) (to b)
  unfolding held
  held_as {c} {d} h =
      let w = width in
      let e : to b + 1 - to a ≡ b + 1 - a = omega arith in
      rw e (least_same (b + 1 - a) _ _ (λ i l. ap certainty (rw (keeps a i) at (h.is (a + i) (omega arith)))))

  edge_as : (e : Edge) {c d : ℕ → ℕ} → Like to hi c d
      → edge_over e c a b ≡ edge_over e d (to a) (to b)
  edge_as e {c} {d} h = go (equal? b (a + 1))
    where
      go : (b ≡ a + 1) ⊎ (b ≡ a + 1 → ⊥) → edge_over e c a b ≡ edge_over e d (to a) (to b)
      go (inl k) =
          let w = width in
          let m : to b ≡ to a + 1 = omega arith in
          rw (eq-eqb _ _ k, eq-eqb _ _ m, h.is a (omega arith), h.is b last) refl
      go (inr k) =
          let w = width in
          rw (ne_eqb _ _ k, ne_eqb (to b) (to a + 1) (λ m. k (omega arith))) refl

  pub leaf_as : (k : ℕ) {c d : ℕ → ℕ} → Like to hi c d
      → leaf_over_lem k c a b ≡ leaf_over_lem k d (to a) (to b)
  unfolding leaf_over_lem
  leaf_as k {c} {d} h = go (below? k 64)
    where
      go : (k < 64) ⊎ (64 ≤ k) → leaf_over_lem k c a b ≡ leaf_over_lem k d (to a) (to b)
      go (inl l) = rw (lt-ltb _ _ l) (held_as h)
      go (inr l) = rw (le-ltb _ _ l) (edge_as (edge_at (k - 64)) h)

  module _ {P Q R S : Window} (p : As to hi P R) (q : As to hi Q S) where
    followed_as : followed_by P Q a b ≡ followed_by R S (to a) (to b)
    unfolding followed_by
    followed_as =
        let w = width in
        let e : to b - (to a + 1) ≡ b - (a + 1) = omega arith in
        rw e
        (greatest_same (b - (a + 1)) _ _ (λ i l.
        let x = rw (behind i) at (p.is a (a + 1 + i) (omega arith) (omega arith)) in
        let y = rw (behind i) at (q.is (a + 1 + i) b (omega arith) last) in
        omega arith))

    either_as : either P Q a b ≡ either R S (to a) (to b)
    unfolding either
    either_as = let x = p.is a b some last in let y = q.is a b some last in omega arith

    lesser_as : min (P a b) (Q a b) ≡ min (R (to a) (to b)) (S (to a) (to b))
    lesser_as = let x = p.is a b some last in let y = q.is a b some last in omega arith

    together_as : Off P → Off Q → Off R → Off S → together P Q a b ≡ together R S (to a) (to b)
    unfolding together
    together_as f g h k =
        let w = width in
        let e : to b + 1 - to a ≡ b + 1 - a = omega arith in
        rw e (greatest_same (b + 1 - a) _ _ (λ i l. one i l (below? (a + i) b)))
      where
        one : (i : ℕ) → i < b + 1 - a → (a + i < b) ⊎ (b ≤ a + i)
            → max (min (P a b) (Q (a + i) b)) (min (P (a + i) b) (Q a b))
            ≡ max (min (R (to a) (to b)) (S (to a + i) (to b))) (min (R (to a + i) (to b)) (S (to a) (to b)))
        one i l (inl o) =
            let x = p.is a b some last in
            let y = q.is a b some last in
            let u = rw (keeps a i) at (p.is (a + i) b o last) in
            let v = rw (keeps a i) at (q.is (a + i) b o last) in
            omega arith
        one i l (inr o) =
            let w = width in
            let d : a + i ≡ b = omega arith in
            let c : to a + i ≡ to b = omega arith in
            let x = f b in
            let y = g b in
            let u = h (to b) in
            let v = k (to b) in
            rw (d, c) (omega arith)

module _ (to : ℕ → ℕ) (keeps : Keeps to) (hi a b : ℕ) (some : a < b) (last : b ≤ hi) {P Q R S : Window}
    (p : As to hi P R) (q : As to hi Q S) where
  joined_as : Off P → Off Q → Off R → Off S → (j : Join) → joined j P Q a b ≡ joined j R S (to a) (to b)
  unfolding joined either
  joined_as f g h k followed_by_join = followed_as to keeps hi a b some last p q
  joined_as f g h k either_order =
      let x = followed_as to keeps hi a b some last p q in
      let y = followed_as to keeps hi a b some last q p in
      omega arith
  joined_as f g h k with_or_then =
      let x = together_as to keeps hi a b some last p q f g h k in
      let y = followed_as to keeps hi a b some last p q in
      omega arith
  joined_as f g h k any_order =
      let x = followed_as to keeps hi a b some last p q in
      let y = together_as to keeps hi a b some last p q f g h k in
      let z = followed_as to keeps hi a b some last q p in
      omega arith
  joined_as f g h k with = together_as to keeps hi a b some last p q f g h k
  joined_as f g h k or_else = either_as to keeps hi a b some last p q

  -- a condition is not off on windows without an event, and no operator of two vectors asks it
  pub operated_as : (k : ℕ) → Off P → Off Q → (k < 56 → Off R × Off S)
      → operated k P Q a b ≡ operated k R S (to a) (to b)
  unfolding operated
  operated_as k f g h = go (below? k 56)
    where
      go : (k < 56) ⊎ (56 ≤ k) → operated k P Q a b ≡ operated k R S (to a) (to b)
      go (inl l) = rw (lt-ltb _ _ l) (joined_as f g (h l).0 (h l).1 (join_at (k - 50)))
      go (inr l) = rw (le-ltb _ _ l) (lesser_as to keeps hi a b some last p q)
