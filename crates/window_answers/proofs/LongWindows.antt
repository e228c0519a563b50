-- A window of more events than an expression's longest answers no, whatever the states are. By induction on the
-- expression, from the definitions of the operators on windows.
--   NoBeyond                                 what answers no on windows of more than so many events
--   followed_long, either_long, together_long, joined_long     the operators of two vectors
--   too_long                                  every expression
use Prim.Native.Nat.{ℕ, ◌+◌, ◌-◌, ◌<◌, ◌≤◌, min, max}
use native.Mathlib.Omega.{arith}
use mathlib.Core.Path.{◌≡◌}
use mathlib.Core.Logic.{◌⊎◌, inl, inr}
use borrow.Author.Tests.{ne_eqb}
use Rattle.alf.specs.Expressions.{Boolean, Vector, edge, join, while}
use Rattle.alf.specs.Expressions.{Join, followed_by_join, either_order, with_or_then, any_order, with, or_else}
use Rattle.alf.specs.Windows.{Window, NO, followed_by, either, together, joined, answer}
use Rattle.basics.proofs.Bools.{below?}
use Rattle.basics.proofs.Extremes.{greatest_zero}
use Rattle.window_answers.specs.Lengths.{joined_length, longest}

abbrev pub NoBeyond : Window → ℕ → Type 0
NoBeyond P n = (a b : ℕ) → n < b - a → P a b ≡ NO

more : {P : Window} {n m : ℕ} → n ≤ m → NoBeyond P n → NoBeyond P m
more l h a b k = h a b (omega arith)

either_long : {P Q : Window} {n : ℕ} → NoBeyond P n → NoBeyond Q n → NoBeyond (either P Q) n
unfolding either
either_long h k a b l = let e = h a b l in let d = k a b l in omega arith

module _ {P Q : Window} {n m : ℕ} (h : NoBeyond P n) (k : NoBeyond Q m) where
  -- cut at any row, one of the two parts is too long
  followed_long : NoBeyond (followed_by P Q) (n + m)
  unfolding followed_by
  followed_long a b l = greatest_zero (b - (a + 1)) _ (λ i j. go i j (below? n (1 + i)))
    where
      go : (i : ℕ) → i < b - (a + 1) → (n < 1 + i) ⊎ (1 + i ≤ n) → min (P a (a + 1 + i)) (Q (a + 1 + i) b) ≡ 0
      go i j (inl o) = let e = h a (a + 1 + i) (omega arith) in omega arith
      go i j (inr o) = let e = k (a + 1 + i) b (omega arith) in omega arith

  -- the longer of the two has the whole window
  together_long : NoBeyond (together P Q) (max n m)
  unfolding together
  together_long a b l =
      let e = h a b (omega arith) in
      let d = k a b (omega arith) in
      greatest_zero (b + 1 - a) _ (λ i j. omega arith)

joined_long : (j : Join) {P Q : Window} {n m : ℕ} → NoBeyond P n → NoBeyond Q m
    → NoBeyond (joined j P Q) (joined_length j n m)
unfolding joined joined_length
joined_long followed_by_join h k = followed_long h k
joined_long either_order h k = either_long (followed_long h k) (more (omega arith) (followed_long k h))
joined_long with_or_then h k = either_long (more (omega arith) (together_long h k)) (followed_long h k)
joined_long any_order h k =
    either_long (either_long (followed_long h k) (more (omega arith) (together_long h k)))
    (more (omega arith) (followed_long k h))
joined_long with h k = together_long h k
joined_long or_else h k = either_long (more (omega arith) h) (more (omega arith) k)

pub too_long : (st : Boolean → ℕ → ℕ) (p : Vector) → NoBeyond (answer st p) (longest p)
unfolding answer longest
too_long st (edge e c) a b l = rw (ne_eqb b (a + 1) (λ d. omega arith)) (omega arith)
too_long st (join j p q) a b l = joined_long j (too_long st p) (too_long st q) a b l
too_long st (while s p c) a b l = let e = too_long st p a b l in omega arith
