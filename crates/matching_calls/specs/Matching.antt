-- What the calls come to that match by the alternatives of a tree: document 01's answer on windows, the number of
-- alternatives tried, and document 02's time where the match began ([12]); at a row, at all rows; the totals.
--   expression, answers_on, tries_on, began_on     a tree's expression, its answers at the rows, the numbers tried, the
--                                         times where the matches began
--   MatchesTree, Finds, RowMatch          a row
--   FoundAs                               a result that is the answer with a number, the number tried, and the time
--   Lent, FillsTree, AllMatched           all rows, in lent lists
--   TotalsTree, Counts, RowTotals         the totals
--   TreeRow, TreeRows, TreeLists          what is asked once the lists and the tree are good
use Rattle.std.specs.Prelude.{Err, Ok, Result}
use Rattle.matcher.specs.declared.tables.Total.{Total}
use Rattle.beginnings.specs.declared.times.Dated.{Dated}
use Rattle.basics.specs.declared.Refusal.{Refusal}
use Rattle.std.specs.Prelude.{ℕ, ◌<◌, ◌≡◌, List, length}
use Rattle.alf.specs.declared.Rules.{Rules}
use Rattle.alf.specs.declared.Answer.{Answer}
use Rattle.alf.specs.Beginnings.{Began}
use Rattle.alf.specs.declared.Sort.TheVariants as sort
use Rattle.basics.specs.Refusing.{Outcome}
use Rattle.basics.specs.Words.{listed}
use Rattle.alf.specs.Expressions.{Vector}
use Rattle.alf.specs.Values.{state_at}
use Rattle.alf.specs.Steady.{meant}
use Rattle.alf.specs.Windows.{row_answer}
use Rattle.alf.specs.Answers.{number_of}
use Rattle.alf.specs.Alternatives.{alternatives, tries}
use Rattle.alf.specs.Beginnings.{began, is_given, time_of_lem}
use Rattle.alf.specs.Traces.{Totals}
use Rattle.alf.specs.Refusals.{Order, RefusedBy, Passed, Comes}
use Rattle.trees.specs.Parts.{vector_at}
use Rattle.acceptance.specs.Accepted.{Accepted}
use Rattle.evaluator.specs.Rows.{Within}
use Rattle.matcher.specs.Tables as tables
use Rattle.judging.specs.Orders.{trace_order}
use Rattle.judging.specs.TimedOrders.{timed_order, timed_row_order}
use Rattle.basics.specs.Memory.{after}

-- a row's answer, the number of alternatives tried and the time where the match began, or a refusal
abbrev pub Matching : Type 0
Matching = Result Dated Refusal

-- how often each answer is given, or a refusal
abbrev pub Counting : Type 0
Counting = Result Total Refusal

-- the vector expression that a tree is, as the rules read it
abbrev pub expression : Rules → List ℕ → ℕ → Vector
expression ρ tree names = meant ρ (vector_at tree names (length tree))

-- the number of its answer at each row of a trace, and how many of its alternatives are tried there
abbrev pub answers_on : Rules → ℕ → List ℕ → List ℕ → ℕ → ℕ
answers_on ρ names tree states = row_answer (state_at ρ names states) (expression ρ tree names)

abbrev pub tries_on : Rules → ℕ → List ℕ → List ℕ → ℕ → ℕ
tries_on ρ names tree states = tries (state_at ρ names states) (alternatives (expression ρ tree names))

-- the time where its match began at each row, with the times of the rows
abbrev pub began_on : Rules → ℕ → List ℕ → List ℕ → List ℕ → ℕ → Began
began_on ρ names tree times states = began (state_at ρ names states) times (alternatives (expression ρ tree names))

-- its answer at a row, the number tried, and the time
pub record MatchesTree (ρ : Rules) (names : ℕ) (tree times states : List ℕ) (row : ℕ) (answer : Answer) (tried : ℕ)
    (since : Began) : Type 0 where
  pub is : number_of answer ≡ answers_on ρ names tree states row
  pub count : tried ≡ tries_on ρ names tree states row
  pub start : since ≡ began_on ρ names tree times states row

unfoldable pub Finds : Order → (Answer → ℕ → Began → Type 0) → Matching → Type 0
Finds o right (Ok m) = Passed o × right m.answer m.tries m.began
Finds o right (Err r) = RefusedBy o r

-- the answer with a number, the number tried, and the time
pub record FoundAs (number tried : ℕ) (since : Began) (x : Matching) : Type 0 where
  pub answer : Answer
  pub is : x ≡ Ok (record { answer = answer; tries = tried; began = since })
  pub numbered : number_of answer ≡ number

pub record RowMatch (ρ : Rules) (names n : ℕ) (tree times states : List ℕ) (row : ℕ) (r : Matching) : Type 0 where
  pub comes : Finds (timed_row_order ρ names n tree times states row) (MatchesTree ρ names tree times states row) r

-- lists of n entries: times, answers, numbers tried, and a flag and a time for where each match began
pub record Lent (n times answers tried given began : ℕ) : Type 0 where
  pub times_all : times ≡ n
  pub answers_all : answers ≡ n
  pub tried_all : tried ≡ n
  pub given_all : given ≡ n
  pub began_all : began ≡ n

-- at rows 0 to n-1, in four lists of n entries
pub record FillsTree (ρ : Rules) (names n : ℕ) (tree times states answers' tried' given' began' : List ℕ)
    : Type 0 where
  pub answers : answers' ≡ listed 0 n (answers_on ρ names tree states)
  pub counts : tried' ≡ listed 0 n (tries_on ρ names tree states)
  pub flags : given' ≡ listed 0 n (λ r. is_given (began_on ρ names tree times states r))
  pub stamps : began' ≡ listed 0 n (λ r. time_of_lem (began_on ρ names tree times states r))

pub record AllMatched (ρ : Rules) (names n : ℕ) (tree times states answers tried given began answers' tried' given'
    began' : List ℕ) (r : Outcome) : Type 0 where
  pub comes : Comes
      (timed_order ρ names n (Lent n (length times) (length answers) (length tried) (length given) (length began))
      tree times states) (λ k. k ≡ n) r
  pub answers_memory : answers' ≡ after (listed 0 n (answers_on ρ names tree states)) answers r
  pub tried_memory : tried' ≡ after (listed 0 n (tries_on ρ names tree states)) tried r
  pub given_memory : given' ≡ after (listed 0 n (λ r. is_given (began_on ρ names tree times states r))) given r
  pub began_memory : began' ≡ after (listed 0 n (λ r. time_of_lem (began_on ρ names tree times states r))) began r

-- how many rows answer yes, no and unknown
abbrev pub TotalsTree : Rules → ℕ → ℕ → List ℕ → List ℕ → ℕ → ℕ → ℕ → Type 0
TotalsTree ρ names n tree states = Totals (state_at ρ names states) (expression ρ tree names) n

unfoldable pub Counts : Order → (ℕ → ℕ → ℕ → Type 0) → Counting → Type 0
Counts o right (Ok t) = Passed o × right t.yes t.no t.unknown
Counts o right (Err r) = RefusedBy o r

pub record RowTotals (ρ : Rules) (names n : ℕ) (tree states : List ℕ) (r : Counting) : Type 0 where
  pub comes : Counts (trace_order ρ names n tree sort.Vector states) (TotalsTree ρ names n tree states) r

-- What the functions inside ask: an accepted tree; a row that is there, with its time; n rows; and lists of n entries.
pub record TreeRow (ρ : Rules) (names : ℕ) (tree times states : List ℕ) (row : ℕ) : Type 0 where
  pub accepted : Accepted ρ names sort.Vector tree
  pub there : Within states names row
  pub timed : row < length times

pub record TreeRows (ρ : Rules) (names n : ℕ) (tree states : List ℕ) : Type 0 where
  pub accepted : Accepted ρ names sort.Vector tree
  pub rows : tables.Rows states names n

pub record TreeLists (ρ : Rules) (names n : ℕ) (tree times states answers tried given began : List ℕ) : Type 0 where
  pub asked : TreeRows ρ names n tree states
  pub lent : Lent n (length times) (length answers) (length tried) (length given) (length began)
