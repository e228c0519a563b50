-- A row's answer is the greatest over the alternatives, each ending at the row, unknown included.
--   row_alternatives   row i's answer = greatest over the alternatives
--   same_answer        so the named answers are the same at every row, row 0 included
--   empty_window       every window answer with b = a is no
--   best_short         so the greatest over the windows that start before row i is enough
--   best_small         no row's answer is above yes
use mathlib.Core.Path.{◌≡◌, refl, ap, sym, ◌∙◌}
use mathlib.Core.List.{List, [], ◌∷◌}
use mathlib.Core.Logic.{◌⊎◌, inl, inr}
use Prim.Native.Nat.{ℕ, zero, suc, ◌+◌, ◌-◌, ◌<◌, ◌≤◌}
use native.Mathlib.Numerals.{add-one}
use native.Mathlib.Omega.{arith}
use lib.ListN.{length}
use borrow.Author.Tests.{le-leb, lt-leb}
use Rattle.basics.specs.Words.{greatest, greatest_of}
use Rattle.alf.specs.Expressions.{Boolean, Vector}
use Rattle.alf.specs.Windows.{answer, best, row_answer, numbered}
use Rattle.alf.specs.Alternatives.{Alternative, alternatives, steps_from, on_window, at_row, best_of, answer_of}
use Rattle.basics.proofs.Bools.{below?}
use Rattle.basics.proofs.AllEntries.{none, more}
use Rattle.basics.proofs.Extremes.{greatest_same, greatest_zero, greatest_one, greatest_of_swap, greatest_of_same}
use Rattle.alf.proofs.Steps.{steps_small}
use Rattle.alf.proofs.Lifting.{Steps, most, win_on, win_off}
use Rattle.alf.proofs.WindowsAreAlternatives.{window_alternatives, every_has_steps}

module _ (st : Boolean → ℕ → ℕ) where
  -- an alternative that fits before row i, and one that is longer
  pub row_on : (i : ℕ) (x : Alternative) → length x ≤ i → at_row st i x ≡ steps_from st x (i - length x)
  unfolding at_row
  row_on i x h = rw (le-leb (length x) i h) refl

  pub row_off : (i : ℕ) (x : Alternative) → i < length x → at_row st i x ≡ 0
  unfolding at_row
  row_off i x h = rw (lt-leb (length x) i h) refl

  pub row_small : (i : ℕ) (x : Alternative) → at_row st i x ≤ 2
  row_small i x = go (below? i (length x))
    where
      go : (i < length x) ⊎ (length x ≤ i) → at_row st i x ≤ 2
      go (inl h) = rw (row_off i x h) (omega arith)
      go (inr h) = rw (row_on i x h) (steps_small st x (i - length x))

  -- of all windows that end at row i an alternative answers on one, if on any
  one_window : (i : ℕ) (x : Alternative) → greatest (i + 1) (λ a. on_window st a i x) ≡ at_row st i x
  one_window i x = go (below? i (length x))
    where
      F : ℕ → ℕ
      F a = on_window st a i x

      go : (i < length x) ⊎ (length x ≤ i) → greatest (i + 1) F ≡ at_row st i x
      go (inl h) =
          greatest_zero (i + 1) F (λ a l. win_off st x a i (λ e. omega arith)) ∙ sym (row_off i x h)
      go (inr h) =
          greatest_one (i + 1) (i - length x) F (omega arith) (λ a l n. win_off st x a i (λ e. n (omega arith)))
          ∙ win_on st x (i - length x) i (omega arith)
          ∙ sym (row_on i x h)

  pub row_alternatives : (p : Vector) (i : ℕ) → best st p i ≡ best_of st (alternatives p) i
  unfolding best best_of
  row_alternatives p i =
      greatest_same (i + 1) _ _ (λ a l. window_alternatives st p a i)
      ∙ greatest_of_swap (i + 1) (λ a. on_window st a i) (alternatives p)
      ∙ greatest_of_same _ _ (alternatives p) (one_window i)

  pub same_answer : (p : Vector) (i : ℕ) → row_answer st p i ≡ answer_of st (alternatives p) i
  unfolding row_answer answer_of
  same_answer p zero = refl
  same_answer p (suc i) = ap numbered (row_alternatives p (suc i))

  most_empty : (xs : List Alternative) (a : ℕ) → Steps xs → most st xs a a ≡ 0
  unfolding greatest_of
  most_empty [] a none = refl
  most_empty (x ∷ xs) a (more h s) =
      let e = win_off st x a a (λ d. omega arith) in
      let f = most_empty xs a s in
      omega arith

  pub empty_window : (p : Vector) (a : ℕ) → answer st p a a ≡ 0
  empty_window p a = window_alternatives st p a a ∙ most_empty (alternatives p) a (every_has_steps p)

  pub best_short : (p : Vector) (i : ℕ) → best st p i ≡ greatest i (λ a. answer st p a i)
  unfolding best greatest
  best_short p i = let e = empty_window p i in rw add-one (omega arith)

  best_of_small : (xs : List Alternative) (i : ℕ) → best_of st xs i ≤ 2
  unfolding best_of greatest_of
  best_of_small [] i = omega arith
  best_of_small (x ∷ xs) i = let e = row_small i x in let f = best_of_small xs i in omega arith

  pub best_small : (p : Vector) (i : ℕ) → best st p i ≤ 2
  best_small p i = rw row_alternatives (best_of_small (alternatives p) i)
