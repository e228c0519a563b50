-- What the calls come to that answer as the tree is written: document 01's state, value and answer, or refused.
--   RowState, RowValue     the state and the value at a row
--   AllValues              the values at all rows, in a lent list
--   Tells, RowAnswer       the answer of a vector expression at a row
--   AnsweredAs             a result that is the answer with a number
use Rattle.std.specs.Prelude.{Err, Ok, Result}
use Rattle.basics.specs.declared.Refusal.{Refusal}
use Rattle.std.specs.Prelude.{ℕ, ◌≡◌, List, length}
use Rattle.alf.specs.declared.Rules.{Rules}
use Rattle.alf.specs.declared.Answer.{Answer}
use Rattle.alf.specs.declared.Sort.TheVariants.{Boolean, Vector}
use Rattle.basics.specs.Refusing.{Outcome}
use Rattle.basics.specs.Words.{listed}
use Rattle.alf.specs.Values.{state_at, value_at}
use Rattle.alf.specs.Steady.{meant}
use Rattle.alf.specs.Windows.{row_answer}
use Rattle.alf.specs.Answers.{number_of}
use Rattle.alf.specs.Refusals.{Order, RefusedBy, Passed, Comes}
use Rattle.trees.specs.Parts.{boolean_at, vector_at}
use Rattle.judging.specs.Orders.{row_order, rows_order}
use Rattle.basics.specs.Memory.{after}

-- a row's answer, or a refusal
abbrev pub Answering : Type 0
Answering = Result Answer Refusal

-- the state of the boolean expression that the tree is, at the row; its value
pub record RowState (ρ : Rules) (names n : ℕ) (tree states : List ℕ) (row : ℕ) (r : Outcome) : Type 0 where
  pub comes : Comes (row_order ρ names n tree Boolean states row)
      (λ k. k ≡ state_at ρ names states (boolean_at tree names (length tree)) row) r

pub record RowValue (ρ : Rules) (names n : ℕ) (tree states : List ℕ) (row : ℕ) (r : Outcome) : Type 0 where
  pub comes : Comes (row_order ρ names n tree Boolean states row)
      (λ k. k ≡ value_at ρ names states (boolean_at tree names (length tree)) row) r

-- its values at rows 0 to n-1, in a list of n entries
pub record AllValues (ρ : Rules) (names n : ℕ) (tree states out out' : List ℕ) (r : Outcome) : Type 0 where
  pub comes : Comes (rows_order ρ names n (length out ≡ n) tree Boolean states) (λ k. k ≡ n) r
  pub memory : out' ≡ after (listed 0 n (value_at ρ names states (boolean_at tree names (length tree)))) out r

-- an answer, by document 01's number, or a refusal
unfoldable pub Tells : Order → ℕ → Answering → Type 0
Tells o a (Ok b) = Passed o × (number_of b ≡ a)
Tells o a (Err r) = RefusedBy o r

-- the answer with a number
pub record AnsweredAs (number : ℕ) (x : Answering) : Type 0 where
  pub answer : Answer
  pub is : x ≡ Ok answer
  pub numbered : number_of answer ≡ number

-- the answer of the vector expression that the tree is, as the rules read it, at the row
pub record RowAnswer (ρ : Rules) (names n : ℕ) (tree states : List ℕ) (row : ℕ) (r : Answering) : Type 0 where
  pub comes : Tells (row_order ρ names n tree Vector states row)
      (row_answer (state_at ρ names states) (meant ρ (vector_at tree names (length tree))) row) r
