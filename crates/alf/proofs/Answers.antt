-- Document 01's numbers of answers.
--   number_same          they tell an answer's case: two cases of the enum with one number are one
--   row_answer_small     a row's answer is at most 3
use Prim.Native.Nat.{ℕ, zero, suc, ◌≤◌}
use mathlib.Core.Path.{◌≡◌, refl}
use native.Mathlib.Omega.{arith}
use Rattle.alf.specs.declared.Answer.{Answer}
use Rattle.alf.specs.declared.Answer.TheVariants.{No, Yes, Unknown, NoEvent}
use Rattle.alf.specs.Expressions.{Boolean, Vector}
use Rattle.alf.specs.Windows.{best, numbered, row_answer}
use Rattle.alf.specs.Answers.{number_of}

pub number_same : (a b : Answer) → number_of a ≡ number_of b → a ≡ b
unfolding number_of
number_same No No e = refl
number_same Yes Yes e = refl
number_same Unknown Unknown e = refl
number_same NoEvent NoEvent e = refl
number_same No Yes e = absurd (omega arith)
number_same No Unknown e = absurd (omega arith)
number_same No NoEvent e = absurd (omega arith)
number_same Yes No e = absurd (omega arith)
number_same Yes Unknown e = absurd (omega arith)
number_same Yes NoEvent e = absurd (omega arith)
number_same Unknown No e = absurd (omega arith)
number_same Unknown Yes e = absurd (omega arith)
number_same Unknown NoEvent e = absurd (omega arith)
number_same NoEvent No e = absurd (omega arith)
number_same NoEvent Yes e = absurd (omega arith)
number_same NoEvent Unknown e = absurd (omega arith)

numbered_small : (r : ℕ) → numbered r ≤ 2
unfolding numbered
numbered_small zero = omega arith
numbered_small (suc zero) = omega arith
numbered_small (suc (suc r)) = omega arith

pub row_answer_small : (st : Boolean → ℕ → ℕ) (p : Vector) (i : ℕ) → row_answer st p i ≤ 3
unfolding row_answer
row_answer_small st p zero = omega arith
row_answer_small st p (suc i) = let n = numbered_small (best st p (suc i)) in omega arith
