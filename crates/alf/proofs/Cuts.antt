-- Two cuts: "is yes" (at 2) and "is not no" (at 1) commute with the lesser, the greater, least, greatest and every
-- operator,
-- so each answer is two Boolean runs, and an unknown never hides a yes.
--   cut_min, cut_max, cut_greatest, cut_least, cut_greatest_of, cut_least_of
--   cut_followed, cut_either, cut_together, cut_held      the operators on windows
--   run, cut_row      a row's answer, cut, is one Boolean run over the alternatives
--   two_cuts          an answer is what its two cuts say
use Rattle.std.specs.Prelude.{if◌then◌else◌}
use mathlib.Core.Path.{◌≡◌, refl, ap, ◌∙◌}
use mathlib.Core.Bool.{Bool, true, false, ◌&&◌, ◌||◌}
use mathlib.Core.List.{List, [], ◌∷◌}
use mathlib.Core.Logic.{◌⊎◌, inl, inr}
use Prim.Native.Nat.{ℕ, zero, suc, ◌+◌, ◌-◌, ◌<◌, ◌≤◌, min, max}
use native.Mathlib.Omega.{arith}
use lib.Dec.{leb}
use lib.ListN.{length}
use borrow.Author.Tests.{le-leb, lt-leb}
use Rattle.basics.specs.Words.{greatest, least, some, greatest_of, least_of, all}
use Rattle.alf.specs.Expressions.{Boolean, Vector}
use Rattle.alf.specs.Windows.{Window, followed_by, either, together, certainty, held, best}
use Rattle.alf.specs.Alternatives.{Alternative, alternatives, test_at, step_at, steps_from, at_row}
use Rattle.alf.specs.Alternatives.{best_of}
use Rattle.basics.proofs.Bools.{below?}
use Rattle.basics.proofs.Choices.{every}
use Rattle.alf.proofs.RowsAreAlternatives.{row_on, row_off, row_alternatives}

pub cut_min : (k x y : ℕ) → leb k (min x y) ≡ (leb k x && leb k y)
cut_min k x y = go (below? x k) (below? y k)
  where
    go : (x < k) ⊎ (k ≤ x) → (y < k) ⊎ (k ≤ y) → leb k (min x y) ≡ (leb k x && leb k y)
    go (inl p) q = rw (lt-leb k x p) (lt-leb k (min x y) (omega arith))
    go (inr p) (inl q) = rw (le-leb k x p, lt-leb k y q) (lt-leb k (min x y) (omega arith))
    go (inr p) (inr q) = rw (le-leb k x p, le-leb k y q) (le-leb k (min x y) (omega arith))

pub cut_max : (k x y : ℕ) → leb k (max x y) ≡ (leb k x || leb k y)
cut_max k x y = go (below? x k) (below? y k)
  where
    go : (x < k) ⊎ (k ≤ x) → (y < k) ⊎ (k ≤ y) → leb k (max x y) ≡ (leb k x || leb k y)
    go (inl p) (inl q) = rw (lt-leb k x p, lt-leb k y q) (lt-leb k (max x y) (omega arith))
    go (inl p) (inr q) = rw (lt-leb k x p, le-leb k y q) (le-leb k (max x y) (omega arith))
    go (inr p) q = rw (le-leb k x p) (le-leb k (max x y) (omega arith))

-- whether some entry of a list passes
unfoldable pub any : {A : Type 0} → (A → Bool) → List A → Bool
any p [] = false
any p (x ∷ xs) = p x || any p xs

some_same : (n : ℕ) (p q : ℕ → Bool) → ((i : ℕ) → p i ≡ q i) → some n p ≡ some n q
unfolding some
some_same zero p q h = refl
some_same (suc n) p q h = rw (some_same n p q h, h n) refl

-- a cut above no is passed by the greatest exactly if some entry passes
module _ (k : ℕ) (pos : 0 < k) where
  pub cut_greatest : (n : ℕ) (f : ℕ → ℕ) → leb k (greatest n f) ≡ some n (λ i. leb k (f i))
  unfolding greatest some
  cut_greatest zero f = lt-leb k 0 pos
  cut_greatest (suc n) f = cut_max k (greatest n f) (f n) ∙ rw (cut_greatest n f) refl

  pub cut_greatest_of : {A : Type 0} (f : A → ℕ) (xs : List A)
      → leb k (greatest_of f xs) ≡ any (λ x. leb k (f x)) xs
  unfolding greatest_of any
  cut_greatest_of f [] = lt-leb k 0 pos
  cut_greatest_of f (x ∷ xs) = cut_max k (f x) (greatest_of f xs) ∙ rw (cut_greatest_of f xs) refl

  pub cut_followed : (P Q : Window) (a b : ℕ)
      → leb k (followed_by P Q a b) ≡ some (b - (a + 1)) (λ i. leb k (P a (a + 1 + i)) && leb k (Q (a + 1 + i) b))
  unfolding followed_by
  cut_followed P Q a b =
      cut_greatest (b - (a + 1)) _ ∙ some_same _ _ _ (λ i. cut_min k (P a (a + 1 + i)) (Q (a + 1 + i) b))

  pub cut_either : (P Q : Window) (a b : ℕ) → leb k (either P Q a b) ≡ (leb k (P a b) || leb k (Q a b))
  unfolding either
  cut_either P Q a b = cut_max k (P a b) (Q a b)

  pub cut_together : (P Q : Window) (a b : ℕ)
      → leb k (together P Q a b)
      ≡ some (b + 1 - a) (λ i. leb k (P a b) && leb k (Q (a + i) b) || leb k (P (a + i) b) && leb k (Q a b))
  unfolding together
  cut_together P Q a b =
      cut_greatest (b + 1 - a) _
      ∙ some_same _ _ _
      (λ i. cut_max k _ _ ∙ rw (cut_min k (P a b) (Q (a + i) b), cut_min k (P (a + i) b) (Q a b)) refl)

-- a cut at most at yes is passed by the least exactly if every entry passes
module _ (k : ℕ) (low : k ≤ 2) where
  pub cut_least : (n : ℕ) (f : ℕ → ℕ) → leb k (least n f) ≡ every n (λ i. leb k (f i))
  unfolding least every
  cut_least zero f = le-leb k 2 low
  cut_least (suc n) f = cut_min k (least n f) (f n) ∙ rw (cut_least n f) refl

  pub cut_least_of : {A : Type 0} (f : A → ℕ) (xs : List A) → leb k (least_of f xs) ≡ all (λ x. leb k (f x)) xs
  unfolding least_of all
  cut_least_of f [] = le-leb k 2 low
  cut_least_of f (x ∷ xs) = cut_min k (f x) (least_of f xs) ∙ rw (cut_least_of f xs) refl

  pub cut_held : (c : ℕ → ℕ) (a b : ℕ)
      → leb k (held c a b) ≡ every (b + 1 - a) (λ i. leb k (certainty (c (a + i))))
  unfolding held
  cut_held c a b = cut_least (b + 1 - a) _

-- One Boolean run: some alternative that fits before the row passes the cut at each of its tests.
module _ (k : ℕ) (st : Boolean → ℕ → ℕ) where
  unfoldable pub run_steps : Alternative → ℕ → Bool
  run_steps [] a = true
  run_steps (s ∷ x) a = all (λ t. leb k (test_at st a t)) s && run_steps x (a + 1)

  unfoldable pub run : List Alternative → ℕ → Bool
  run xs i = any (λ x. leb (length x) i && run_steps x (i - length x)) xs

  module _ (pos : 0 < k) (low : k ≤ 2) where
    cut_steps : (x : Alternative) (a : ℕ) → leb k (steps_from st x a) ≡ run_steps x a
    unfolding steps_from run_steps step_at
    cut_steps [] a = le-leb k 2 low
    cut_steps (s ∷ x) a = cut_min k _ _ ∙ rw (cut_least_of k low (test_at st a) s, cut_steps x (a + 1)) refl

    cut_alternative : (x : Alternative) (i : ℕ)
        → leb k (at_row st i x) ≡ (leb (length x) i && run_steps x (i - length x))
    cut_alternative x i = go (below? i (length x))
      where
        go : (i < length x) ⊎ (length x ≤ i)
            → leb k (at_row st i x) ≡ (leb (length x) i && run_steps x (i - length x))
        go (inl h) = rw (row_off st i x h, lt-leb (length x) i h) (lt-leb k 0 pos)
        go (inr h) = rw (row_on st i x h, le-leb (length x) i h) (cut_steps x (i - length x))

    cut_list : (xs : List Alternative) (i : ℕ) → leb k (best_of st xs i) ≡ run xs i
    unfolding best_of greatest_of run any
    cut_list [] i = lt-leb k 0 pos
    cut_list (x ∷ xs) i = cut_max k _ _ ∙ rw (cut_alternative x i, cut_list xs i) refl

    pub cut_row : (p : Vector) (i : ℕ) → leb k (best st p i) ≡ run (alternatives p) i
    cut_row p i = ap (leb k) (row_alternatives st p i) ∙ cut_list (alternatives p) i

-- an answer is what its two cuts say
pub two_cuts : (x : ℕ) → x ≤ 2 → x ≡ (if leb 2 x then 2 else if leb 1 x then 1 else 0)
two_cuts zero h = refl
two_cuts (suc zero) h = refl
two_cuts (suc (suc zero)) h = refl
two_cuts (suc (suc (suc x))) h = absurd (omega arith)
