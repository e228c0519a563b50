-- What C may rely on by the number that a function hands over, `number` 0 or another: 0 exactly where the call was
-- done; else document 01's number of a refusal, from 1 to 19, and all lent memory is as it was.
--   Kind              how a kind of result (A) is handed to C (B): as it is told, its number, a refusal among them
--   Done              a result that is no refusal
--   RefusalTold       C is told of a refusal that the contract allows
--   Reliable          what C may rely on, of a function
--   outcomes, expressions, readings, row_changes, row_answers, matches, counts, pushes     the kinds of results
--   Nothing           no memory is lent to write to
--   EmptyQueue        what `dachsmond_empty_queue` hands over
use Rattle.std.specs.Prelude.{Result, Err}
use Rattle.std.specs.Prelude.{ℕ, ◌≤◌, ◌≡◌, replicate}
use Rattle.basics.specs.declared.Refusal.{Refusal}
use Rattle.basics.specs.Refusing.{Outcome}
use Rattle.reader.specs.declared.Read.{Read}
use Rattle.trace_reader.specs.Reading.{Reading}
use Rattle.changes.specs.Call.{RowChanges}
use Rattle.row_calls.specs.Written as rows
use Rattle.matching_calls.specs.Matching.{Matching}
use Rattle.matching_calls.specs.Matching.{Counting}
use Rattle.queue_calls.specs.declared.pushing.Pushing.{Pushing}
use Rattle.telling.specs.declared.Told.{Told}
use Rattle.telling.specs.declared.Expression.{Expression}
use Rattle.telling.specs.declared.Trace.{Trace}
use Rattle.telling.specs.declared.Changed.{Changed}
use Rattle.telling.specs.declared.Answered.{Answered}
use Rattle.telling.specs.declared.Matched.{Matched}
use Rattle.telling.specs.declared.Counted.{Counted}
use Rattle.telling.specs.declared.Queue.{Queue}
use Rattle.telling.specs.declared.Pushed.{Pushed}
use Rattle.telling.specs.Handing.{Hands, told, told_expression, told_trace, told_changes, told_answer}
use Rattle.telling.specs.Matching.{told_match, told_counts, queue_of_lem, told_push}

pub record Kind (A B : Type 0) : Type 0 where
  pub tell : A → B
  pub number : B → ℕ
  pub refused : Refusal → A

-- no refusal
abbrev pub Done : {A B : Type 0} → Kind A B → A → Type 0
Done k a = (f : Refusal) → a ≡ k.refused f → ⊥

-- C is told of a refusal that the contract allows, and its number is one of the table's
pub record RefusalTold {A B : Type 0} (k : Kind A B) (allowed : A → Type 0) (r : B) : Type 0 where
  pub refusal : Refusal
  pub is_allowed : allowed (k.refused refusal)
  pub is_told : r ≡ k.tell (k.refused refusal)
  pub is_number : k.number r ≡ refusal.number
  pub from_1 : 1 ≤ k.number r
  pub to_19 : k.number r ≤ 19

-- a function whose contract is `Hands allowed k.tell r`; `kept r` says that all lent memory is as it was
pub record Reliable {A B : Type 0} (k : Kind A B) (allowed : A → Type 0) (kept : B → Type 0) : Type 0 where
  pub zero_done : {r : B} (h : Hands allowed k.tell r) → k.number r ≡ 0 → Done k h.result
  pub done_zero : {r : B} (h : Hands allowed k.tell r) → Done k h.result → k.number r ≡ 0
  pub refused_told : {r : B} → Hands allowed k.tell r → (k.number r ≡ 0 → ⊥) → RefusalTold k allowed r
  pub stays : {r : B} → Hands allowed k.tell r → (k.number r ≡ 0 → ⊥) → kept r

-- nothing is lent to write to
abbrev pub Nothing : {B : Type 0} → B → Type 0
Nothing r = Unit {0}

-- The kinds.
abbrev pub outcomes : Kind Outcome Told
outcomes = record { tell = told; number = λ r. r.number; refused = Err }

abbrev pub expressions : Kind (Result Read Refusal) Expression
expressions = record { tell = told_expression; number = λ r. r.number; refused = Err }

abbrev pub readings : Kind Reading Trace
readings = record { tell = told_trace; number = λ r. r.number; refused = Err }

abbrev pub row_changes : Kind RowChanges Changed
row_changes = record { tell = told_changes; number = λ r. r.number; refused = Err }

abbrev pub row_answers : Kind rows.Answering Answered
row_answers = record { tell = told_answer; number = λ r. r.number; refused = Err }

abbrev pub matches : Kind Matching Matched
matches = record { tell = told_match; number = λ r. r.number; refused = Err }

abbrev pub counts : Kind Counting Counted
counts = record { tell = told_counts; number = λ r. r.number; refused = Err }

-- a push by a queue that C hands in
abbrev pub pushes : Queue → Kind Pushing Pushed
pushes q =
    record {
      tell = told_push;
      number = λ r. r.number;
      refused = λ f. record { told = Err f; queue = queue_of_lem q };
    }

-- a queue that keeps nothing, all zeros
abbrev pub EmptyQueue : Queue → Type 0
EmptyQueue q = (q.kept ≡ 0) × (q.states ≡ replicate 512 0) × (q.times ≡ replicate 16 0)
