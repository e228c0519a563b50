-- `->` on windows, alternative by alternative: it lifts (Lifting.antt).
-- Main name: chain_lifts (`->` with the steps in a row).
use mathlib.Core.Path.{◌≡◌, refl, sym, ◌∙◌}
use mathlib.Core.List.{◌++◌}
use mathlib.Core.Logic.{◌⊎◌, inl, inr}
use Prim.Native.Nat.{ℕ, ◌+◌, ◌-◌, ◌<◌, min, max}
use native.Mathlib.Omega.{arith}
use lib.ListN.{length, length-append}
use Rattle.basics.specs.Words.{greatest}
use Rattle.alf.specs.Expressions.{Boolean}
use Rattle.alf.specs.Windows.{Window, followed_by, either}
use Rattle.alf.specs.Alternatives.{Alternative, steps_from}
use Rattle.basics.proofs.Bools.{equal?}
use Rattle.basics.proofs.Extremes.{min_max_left, greatest_same, greatest_zero, greatest_one, greatest_max}
use Rattle.alf.proofs.Steps.{steps_append}
use Rattle.alf.proofs.Lifting.{win, win_on, win_off, Lifts}

min_max_right : (x y z : ℕ) → min x (max y z) ≡ max (min x y) (min x z)
min_max_right x y z = omega arith

-- `->` goes through the greater on either side
chain_left : (P P' Q : Window) (a b : ℕ)
    → followed_by (either P P') Q a b ≡ max (followed_by P Q a b) (followed_by P' Q a b)
unfolding followed_by either
chain_left P P' Q a b =
    greatest_same (b - (a + 1)) _ _ (λ i l. min_max_left (P a (a + 1 + i)) (P' a (a + 1 + i)) (Q (a + 1 + i) b))
    ∙ greatest_max (b - (a + 1)) _ _

chain_right : (P Q Q' : Window) (a b : ℕ)
    → followed_by P (either Q Q') a b ≡ max (followed_by P Q a b) (followed_by P Q' a b)
unfolding followed_by either
chain_right P Q Q' a b =
    greatest_same (b - (a + 1)) _ _ (λ i l. min_max_right (P a (a + 1 + i)) (Q (a + 1 + i) b) (Q' (a + 1 + i) b))
    ∙ greatest_max (b - (a + 1)) _ _

chain_same : (P P' Q Q' : Window) → ((a b : ℕ) → P a b ≡ P' a b) → ((a b : ℕ) → Q a b ≡ Q' a b)
    → (a b : ℕ) → followed_by P Q a b ≡ followed_by P' Q' a b
unfolding followed_by
chain_same P P' Q Q' p q a b =
    greatest_same (b - (a + 1)) _ _ (λ i l. let f = p a (a + 1 + i) in let g = q (a + 1 + i) b in omega arith)

chain_no_left : (Q : Window) (a b : ℕ) → followed_by (λ c d. 0) Q a b ≡ 0
unfolding followed_by
chain_no_left Q a b = greatest_zero (b - (a + 1)) _ (λ i l. omega arith)

chain_no_right : (P : Window) (a b : ℕ) → followed_by P (λ c d. 0) a b ≡ 0
unfolding followed_by
chain_no_right P a b = greatest_zero (b - (a + 1)) _ (λ i l. omega arith)

module _ (st : Boolean → ℕ → ℕ) (x y : Alternative) (a b : ℕ) where
  -- the lesser of x on a to m and y on m to b, where m is a + 1 + i
  split : ℕ → ℕ
  split i = min (win st x a (a + 1 + i)) (win st y (a + 1 + i) b)

  -- it is no unless x ends at m
  split_off : (i : ℕ) → (i ≡ length x - 1 → ⊥) → 0 < length x → split i ≡ 0
  unfolding split
  split_off i n h = let z = win_off st x a (a + 1 + i) (λ d. n (omega arith)) in omega arith

  split_on : b ≡ a + length x + length y → 0 < length x → split (length x - 1) ≡ steps_from st (x ++ y) a
  unfolding split
  split_on e h =
      let m : a + 1 + (length x - 1) ≡ a + length x = omega arith in
      let p = win_on st x a (a + length x) refl in
      let q = win_on st y (a + length x) b e in
      rw (m, p, q) (sym (steps_append st x y a))

  split_none : (b ≡ a + length x + length y → ⊥) → 0 < length x → (i : ℕ) → split i ≡ 0
  unfolding split
  split_none n h i = go (equal? i (length x - 1))
    where
      go : (i ≡ length x - 1) ⊎ (i ≡ length x - 1 → ⊥) → split i ≡ 0
      go (inl e) = let z = win_off st y (a + 1 + i) b (λ d. n (omega arith)) in omega arith
      go (inr d) = split_off i d h

  chain_one : 0 < length x → 0 < length y → followed_by (win st x) (win st y) a b ≡ win st (x ++ y) a b
  unfolding followed_by split
  chain_one h k = go (equal? b (a + length x + length y))
    where
      go : (b ≡ a + length x + length y) ⊎ (b ≡ a + length x + length y → ⊥)
          → greatest (b - (a + 1)) split ≡ win st (x ++ y) a b
      go (inl e) =
          greatest_one (b - (a + 1)) (length x - 1) split (omega arith) (λ i l n. split_off i n h)
          ∙ split_on e h
          ∙ sym (win_on st (x ++ y) a b (omega (arith, length-append x y)))
      go (inr n) =
          greatest_zero (b - (a + 1)) split (λ i l. split_none n h i)
          ∙ sym (win_off st (x ++ y) a b (λ d. n (omega (arith, length-append x y))))

pub chain_lifts : (st : Boolean → ℕ → ℕ) → Lifts st followed_by ◌++◌
chain_lifts st =
    record {
      same = chain_same;
      left = chain_left;
      right = chain_right;
      no_left = chain_no_left;
      no_right = chain_no_right;
      one = chain_one st;
    }
