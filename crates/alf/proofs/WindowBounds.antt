-- What every vector expression answers on a window lies between no and yes; without an event it is no.
--   no_event         a window that ends where it starts, or before, answers no
--   answer_small     no answer is above yes
use Prim.Native.Nat.{ℕ, ◌+◌, ◌≤◌}
use native.Mathlib.Omega.{arith}
use mathlib.Core.Path.{◌≡◌, refl, ◌∙◌}
use mathlib.Core.Logic.{◌⊎◌, inl, inr}
use mathlib.Core.List.{List, [], ◌∷◌}
use lib.ListN.{length}
use Rattle.basics.specs.Words.{greatest_of}
use Rattle.alf.specs.Expressions.{Boolean, Vector}
use Rattle.alf.specs.Windows.{answer}
use Rattle.alf.specs.Alternatives.{Alternative, alternatives}
use Rattle.basics.proofs.AllEntries.{none, more}
use Rattle.basics.proofs.Bools.{equal?}
use Rattle.alf.proofs.Steps.{steps_small}
use Rattle.alf.proofs.Lifting.{Steps, win, most, win_on, win_off}
use Rattle.alf.proofs.WindowsAreAlternatives.{window_alternatives, every_has_steps}

module _ (st : Boolean → ℕ → ℕ) where
  most_none : (xs : List Alternative) (a b : ℕ) → b ≤ a → Steps xs → most st xs a b ≡ 0
  unfolding greatest_of
  most_none [] a b l none = refl
  most_none (x ∷ xs) a b l (more h s) =
      let e = win_off st x a b (λ d. omega arith) in
      let f = most_none xs a b l s in
      omega arith

  pub no_event : (p : Vector) (a b : ℕ) → b ≤ a → answer st p a b ≡ 0
  no_event p a b l = window_alternatives st p a b ∙ most_none (alternatives p) a b l (every_has_steps p)

  one_small : (x : Alternative) (a b : ℕ) → win st x a b ≤ 2
  one_small x a b = go (equal? b (a + length x))
    where
      go : (b ≡ a + length x) ⊎ (b ≡ a + length x → ⊥) → win st x a b ≤ 2
      go (inl e) = let d = win_on st x a b e in let l = steps_small st x a in omega arith
      go (inr n) = let d = win_off st x a b n in omega arith

  most_small : (xs : List Alternative) (a b : ℕ) → most st xs a b ≤ 2
  unfolding greatest_of
  most_small [] a b = omega arith
  most_small (x ∷ xs) a b = let l = one_small x a b in let m = most_small xs a b in omega arith

  pub answer_small : (p : Vector) (a b : ℕ) → answer st p a b ≤ 2
  answer_small p a b =
      let e = window_alternatives st p a b in let l = most_small (alternatives p) a b in omega arith
