-- Demand 1, for each public call, under its name: any two results that its contract allows coincide, the memory lent to
-- it too; refused, that memory is as it was. The number and the place of a refusal "exactly when" the table says are in
-- the contracts themselves: the first row of the call's order that holds. That a call ends on any input, and as its
-- contract says, is what the proof of its function says; each contract is here under the name that the function has it.
--   Demand1      what is promised of every public call
use Rattle.std.specs.Prelude.{Err}
use Rattle.std.specs.Prelude.{ℕ, ◌≡◌, true, List}
use Rattle.alf.specs.declared.Rules.{Rules}
use Rattle.alf.specs.declared.Sort.{Sort}
use Rattle.names.specs.Check.{ChecksNames}
use Rattle.basics.specs.declared.Refusal.{Refusal}
use Rattle.reader.specs.Reading.{ReadsText}
use Rattle.text_laws.specs.Shown.{ShownAs}
use Rattle.writer.specs.Writing as writing
use Rattle.trace_reader.specs.Reading.{Reads}
use Rattle.trace_writer.specs.Writing as files
use Rattle.activity.specs.Activity.{ListsActivity, ListsPart}
use Rattle.text_reading.specs.Reading.{MakesTrace}
use Rattle.changes.specs.Call.{RowChanged}
use Rattle.rewriting_calls.specs.Calls.{Rewrites}
use Rattle.contradictions.specs.Calls.{Contradicts}
use Rattle.timed_queue.specs.declared.queues.Queue.{Queue}
use Rattle.row_calls.specs.Written.{RowState, RowValue, AllValues, RowAnswer}
use Rattle.row_calls.specs.Windows.{WindowAnswer}
use Rattle.matching_calls.specs.Matching.{RowMatch, AllMatched, RowTotals}
use Rattle.update_calls.specs.Correcting.{Correction}
use Rattle.queue_calls.specs.Pushing.{Push}
use Rattle.listed_acceptance.specs.Fitting.{ListedFits}
use Rattle.listed_calls.specs.Listed as listed
use Rattle.figures.specs.Delivering.{Delivers}
use Rattle.tree_listings.specs.TreeTexts.{ListsTree, LinesTree}
use Rattle.demands.specs.Promises.{Promised, One, Two, Three, Four}

pub record Demand1 (ρ : Rules) : Type 0 where
  -- texts
  pub check_names_lem : (names : List ℕ) → One (ChecksNames names)
  pub read_expression_lem : (names text : List ℕ) (sort : Sort) → One (ReadsText ρ names text sort)
  -- document 02, [4]: a text that is refused shows what is refused
  pub read_shows : (names text : List ℕ) (sort : Sort) (r : Refusal) → ReadsText ρ names text sort (Err r)
      → ShownAs text r.number r.place r.extent
  pub write_expression_lem : (names tree : List ℕ) (sort : Sort) (out : List ℕ)
      → Promised Err (λ r m. writing.Writes names tree sort out m r) out
  -- trace files, a trace as a text, and the changes of a row
  pub read_trace : (file names times states : List ℕ)
      → Promised {M = Three} Err (λ r m. Reads file names times states m.0 m.1 m.2 r)
      (names, times, states)
  pub write_trace : (names times states : List ℕ) (n : ℕ) (out : List ℕ)
      → Promised Err (λ r m. files.Writes names times states n out m r) out
  pub check_trace_lem : (names times states : List ℕ) (n : ℕ) → One (files.ChecksTrace names times states n)
  pub check_lists_lem : (names times states : List ℕ) (n : ℕ) → One (files.ChecksLists names times states n)
  pub activity : (names times states : List ℕ) (n : ℕ) (out : List ℕ)
      → Promised Err (λ r m. ListsActivity names times states n out m r) out
  pub activity_part : (names times states : List ℕ) (n from to : ℕ) (out : List ℕ)
      → Promised Err (λ r m. ListsPart names times states n from to out m r) out
  pub make_trace : (text names times states : List ℕ)
      → Promised {M = Three} Err (λ r m. MakesTrace text names times states m.0 m.1 m.2 r)
      (names, times, states)
  pub changes_at : (names n : ℕ) (states : List ℕ) (row : ℕ) → One (RowChanged names n states row)
  -- rewriting
  pub rewrite : (names : ℕ) (tree steps tests edges operands : List ℕ)
      → Promised {M = Four} Err
      (λ r m. Rewrites ρ names tree steps tests edges operands m.0 m.1 m.2 m.3 r)
      (steps, tests, edges, operands)
  pub contradictions : (names : ℕ) (tree flags : List ℕ)
      → Promised Err (λ r m. Contradicts ρ names tree flags m r) flags
  -- rows, for a tree handed in
  pub row_state : (names n : ℕ) (tree states : List ℕ) (row : ℕ) → One (RowState ρ names n tree states row)
  pub row_value : (names n : ℕ) (tree states : List ℕ) (row : ℕ) → One (RowValue ρ names n tree states row)
  pub values : (names n : ℕ) (tree states out : List ℕ)
      → Promised Err (λ r m. AllValues ρ names n tree states out m r) out
  pub row_answer_lem : (names n : ℕ) (tree states : List ℕ) (row : ℕ) → One (RowAnswer ρ names n tree states row)
  pub window_answer : (names n : ℕ) (tree states : List ℕ) (from to : ℕ)
      → One (WindowAnswer ρ names n tree states from to)
  pub match_row_lem : (names n : ℕ) (tree times states : List ℕ) (row : ℕ) → One (RowMatch ρ names n tree times states row)
  pub match_all : (names n : ℕ) (tree times states answers tried given began : List ℕ)
      → Promised {M = Four} Err
      (λ r m. AllMatched ρ names n tree times states answers tried given began m.0 m.1 m.2 m.3 r)
      (answers, tried, given, began)
  pub totals : (names n : ℕ) (tree states : List ℕ) → One (RowTotals ρ names n tree states)
  pub correct : (names n : ℕ) (tree states answers : List ℕ) (row : ℕ) (new : List ℕ)
      → Promised {M = Two} Err (λ r m. Correction ρ names n tree states answers row new m.0 m.1 r)
      (states, answers)
  pub push : (names : ℕ) (tree : List ℕ) (queue : Queue) (time : ℕ) (row : List ℕ)
      → Promised Err (λ r q. Push ρ names tree queue time row r q) queue
  -- rows, for alternatives handed in; whether they are accepted
  pub listed_fits : (names : ℕ) (tree steps tests edges operands : List ℕ)
      → One (ListedFits names tree steps tests edges operands)
  pub listed_match_row : (names n : ℕ) (tree steps tests edges operands states times : List ℕ) (row : ℕ)
      → One (listed.ListedMatch ρ names n tree steps tests edges operands states times row)
  pub listed_match_all : (names n : ℕ)
      (tree steps tests edges operands states times answers tried given began : List ℕ)
      → Promised {M = Four} Err
      (λ r m.
      listed.ListedAll ρ names n tree steps tests edges operands states times answers tried given began m.0 m.1
      m.2 m.3 r)
      (answers, tried, given, began)
  pub listed_totals : (names n : ℕ) (tree steps tests edges operands states : List ℕ)
      → One (listed.ListedTotals ρ names n tree steps tests edges operands states)
  pub listed_push : (names : ℕ) (tree steps tests edges operands : List ℕ) (queue : Queue) (time : ℕ) (row : List ℕ)
      → Promised Err
      (λ r q. listed.ListedPush ρ names tree steps tests edges operands queue time row r q) queue
  -- the listing, and the lines of the table: of a pattern, and any other
  pub list : (names n : ℕ) (tree states times out : List ℕ)
      → Promised Err (λ r m. ListsTree ρ names n tree times states out m r) out
  pub table_line : (names n : ℕ) (tree states pattern out : List ℕ)
      → Promised Err (λ r m. LinesTree ρ names n tree states pattern out m r) out
  pub line : (text out : List ℕ) → Promised Err (λ r m. Delivers text out m r) out
