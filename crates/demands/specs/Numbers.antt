-- Document 01, "Numbers for refused work", the sentences behind the table: each public call has its numbers
-- (CallNumbers) in their order, and whatever its contract refuses has one of them. The rows that belong to the numbers
-- stand in the orders named here, which the contracts are made of.
--   in_table                         a number of the table: 1 to 19
--   Numbers                         the orders of the public calls have these numbers
--   Refuses, RefusedNumbers         a contract refuses with these alone, all from 1 to 19; so do the public calls
use Rattle.std.specs.Prelude.{Err}
use Rattle.trace_reader.specs.Reading.{size}
use Rattle.std.specs.Prelude.{ℕ, ◌-◌, ◌≤◌, ◌≡◌, Bool, true, ◌&&◌, List, [], ◌∷◌, leb, length}
use Rattle.basics.specs.declared.Refusal.{Refusal}
use Rattle.alf.specs.declared.Rules.{Rules}
use Rattle.alf.specs.declared.Sort.{Sort}
use Rattle.alf.specs.declared.Sort.TheVariants.{Boolean, Vector}
use Rattle.alf.specs.States.{among}
use Rattle.alf.specs.Alternatives.{Alternative}
use Rattle.alf.specs.Refusals.{numbers_of}
use Rattle.names.specs.Check.{names_order, ChecksNames}
use Rattle.reader.specs.Reading.{read_order, ReadsText}
use Rattle.writer.specs.Writing as writing
use Rattle.trace_format.specs.Records.{record_order, mark_here}
use Rattle.trace_reader.specs.Reading as traces
use Rattle.trace_writer.specs.Writing as files
use Rattle.changes.specs.Call as changes
use Rattle.rewriting_calls.specs.Calls as rewriting
use Rattle.contradictions.specs.Calls as flagging
use Rattle.timed_queue.specs.declared.queues.Queue.{Queue}
use Rattle.judging.specs.TimedOrders.{timed_order, timed_row_order}
use Rattle.judging.specs.Orders as judging
use Rattle.row_calls.specs.Written.{RowState, RowValue, AllValues, RowAnswer}
use Rattle.row_calls.specs.Windows.{WindowAnswer}
use Rattle.matching_calls.specs.Matching.{Lent, RowMatch, AllMatched, RowTotals}
use Rattle.update_calls.specs.Correcting.{correction_order, Correction}
use Rattle.queue_calls.specs.Pushing.{push_order, Push}
use Rattle.listed_calls.specs.Listed as listed
use Rattle.listed_acceptance.specs.Fitting.{fits_order, ListedFits}
use Rattle.tree_listings.specs.TreeTexts.{text_order, ListsTree, LinesTree}
use Rattle.activity.specs.Activity.{activity_order, ListsActivity, part_order, ListsPart}
use Rattle.figures.specs.Delivering.{line_order, Delivers}
use Rattle.trace_texts.specs.Words.{Line}
use Rattle.trace_texts.specs.Texts.{name_words, said_order}
use Rattle.text_reading.specs.Reading.{MakesTrace}
use Rattle.demands.specs.CallNumbers.{
  names_numbers,
  text_numbers,
  writing_numbers,
  record_numbers,
  room_numbers,
  file_numbers,
  trace_numbers,
  part_numbers,
  rows_numbers,
  row_numbers,
  timed_numbers,
  timed_row_numbers,
  correction_numbers,
  changes_numbers,
  rewriting_numbers,
  flag_numbers,
  text_numbers_of_tree,
  fits_numbers,
  line_numbers,
  said_numbers,
  making_numbers,
}

-- The orders of the calls have these numbers. `row_state` is also the order of `row_value`; `match_row_lem` that of
-- `row_answer_lem` and, at the later of its two rows, of `window_answer`.
pub record Numbers (ρ : Rules) : Type 0 where
  pub check_names_lem : (names : List ℕ) → numbers_of (names_order names) ≡ names_numbers
  pub read_expression_lem : (names text : List ℕ) (sort : Sort) → numbers_of (read_order ρ names text sort) ≡ text_numbers
  pub write_expression_lem : (names tree : List ℕ) (sort : Sort) (room : ℕ)
      → numbers_of (writing.order names tree sort room) ≡ writing_numbers
  pub read_record : (file : List ℕ) (k r : ℕ)
      → numbers_of (record_order file k r) ≡ record_numbers (mark_here file k r)
  pub read_room : (names times states : List ℕ) (k n : ℕ)
      → numbers_of (traces.room_order names times states k n) ≡ room_numbers
  -- a text without a head, and with one; then the room, as for a file
  pub make_nothing : (size : ℕ) → numbers_of (said_order size []) ≡ 14 ∷ []
  pub make_trace : (size : ℕ) (head : Line) (rows : List Line)
      → numbers_of (said_order size (head ∷ rows)) ≡ said_numbers (length (name_words head)) (length rows)
  pub write_trace : (names times states : List ℕ) (n room : ℕ)
      → numbers_of (files.write_order names times states n room) ≡ trace_numbers n
  pub activity : (names times states : List ℕ) (n room : ℕ)
      → numbers_of (activity_order names times states n room) ≡ trace_numbers n
  pub activity_part : (names times states : List ℕ) (n from to room : ℕ)
      → numbers_of (part_order names times states n from to room) ≡ part_numbers (to - from)
  pub changes_at : (names n : ℕ) (states : List ℕ) (row : ℕ)
      → numbers_of (changes.order names n states row) ≡ changes_numbers
  pub rewrite : (names : ℕ) (tree : List ℕ) (xs : List Alternative) (steps tests edges operands : List ℕ)
      → numbers_of (rewriting.tree_order ρ names tree (rewriting.room_order xs steps tests edges operands))
      ≡ rewriting_numbers
  pub contradictions : (names : ℕ) (tree : List ℕ) (xs : List Alternative) (flags : List ℕ)
      → numbers_of (rewriting.tree_order ρ names tree (flagging.flag_order names xs flags)) ≡ flag_numbers
  pub row_state : (names n : ℕ) (tree states : List ℕ) (row : ℕ)
      → numbers_of (judging.row_order ρ names n tree Boolean states row) ≡ row_numbers
  pub values : (names n : ℕ) (tree states out : List ℕ)
      → numbers_of (judging.rows_order ρ names n (length out ≡ n) tree Boolean states) ≡ rows_numbers
  pub row_answer_lem : (names n : ℕ) (tree states : List ℕ) (row : ℕ)
      → numbers_of (judging.row_order ρ names n tree Vector states row) ≡ row_numbers
  pub match_row_lem : (names n : ℕ) (tree times states : List ℕ) (row : ℕ)
      → numbers_of (timed_row_order ρ names n tree times states row) ≡ timed_row_numbers
  pub match_all : (names n : ℕ) (tree times states answers tried given began : List ℕ)
      → numbers_of (timed_order ρ names n
      (Lent n (length times) (length answers) (length tried) (length given) (length began)) tree times states)
      ≡ timed_numbers
  pub totals : (names n : ℕ) (tree states : List ℕ)
      → numbers_of (judging.trace_order ρ names n tree Vector states) ≡ rows_numbers
  pub correct : (names n : ℕ) (tree states answers : List ℕ) (row : ℕ) (new : List ℕ)
      → numbers_of (correction_order ρ names n tree states answers row new) ≡ correction_numbers
  pub push : (names : ℕ) (tree : List ℕ) (queue : Queue) (time : ℕ) (row : List ℕ)
      → numbers_of (push_order ρ names tree queue time row) ≡ timed_numbers
  pub listed_match_row : (names n : ℕ) (tree steps tests edges operands states times : List ℕ) (row : ℕ)
      → numbers_of (listed.row_order names n tree steps tests edges operands states times row) ≡ timed_row_numbers
  pub listed_match_all : (names n : ℕ)
      (tree steps tests edges operands states times answers tried given began : List ℕ)
      → numbers_of (listed.timed_order names n tree steps tests edges operands states
      (Lent n (length times) (length answers) (length tried) (length given) (length began)
      × judging.Rows names n (length states)) times) ≡ timed_numbers
  pub listed_totals : (names n : ℕ) (tree steps tests edges operands states : List ℕ)
      → numbers_of (listed.rows_order names n tree steps tests edges operands states
      (judging.Rows names n (length states))) ≡ rows_numbers
  pub listed_push : (names : ℕ) (tree steps tests edges operands : List ℕ) (queue : Queue) (time : ℕ) (row : List ℕ)
      → numbers_of (listed.push_order names tree steps tests edges operands queue time row) ≡ timed_numbers
  pub listed_fits : (names : ℕ) (tree steps tests edges operands : List ℕ)
      → numbers_of (fits_order names tree steps tests edges operands) ≡ fits_numbers
  pub list : (names n : ℕ) (tree times states text : List ℕ) (room : ℕ)
      → numbers_of
      (text_order ρ ((length times ≡ n) × judging.Rows names n (length states)) names tree states text room)
      ≡ text_numbers_of_tree
  pub table_line : (names n : ℕ) (tree states text : List ℕ) (room : ℕ)
      → numbers_of (text_order ρ (judging.Rows names n (length states)) names tree states text room)
      ≡ text_numbers_of_tree
  pub line : (text : List ℕ) (room : ℕ) → numbers_of (line_order text room) ≡ line_numbers

-- a number of the table
unfoldable pub in_table : ℕ → Bool
in_table n = leb 1 n && leb n 19

-- whatever is refused is refused with one of these numbers, and they are numbers of the table
pub record Refuses {R : Type 0} (refused : Refusal → R) (allows : R → Type 0) (numbers : List ℕ) : Type 0 where
  pub one_of : (r : Refusal) → allows (refused r) → among r.number numbers ≡ true
  pub in_table_lem : (r : Refusal) → allows (refused r) → (1 ≤ r.number) × (r.number ≤ 19)

-- The public calls refuse with these numbers alone. A list with a prime is memory at exit.
pub record RefusedNumbers (ρ : Rules) : Type 0 where
  pub check_names_lem : (names : List ℕ) → Refuses Err (ChecksNames names) names_numbers
  pub read_expression_lem : (names text : List ℕ) (sort : Sort)
      → Refuses Err (ReadsText ρ names text sort) text_numbers
  pub write_expression_lem : (names tree : List ℕ) (sort : Sort) (out out' : List ℕ)
      → Refuses Err (writing.Writes names tree sort out out') writing_numbers
  pub read_trace : (file names times states names' times' states' : List ℕ)
      → Refuses Err (traces.Reads file names times states names' times' states') file_numbers
  pub make_trace : (text names times states names' times' states' : List ℕ)
      → Refuses Err (MakesTrace text names times states names' times' states') making_numbers
  pub write_trace : (names times states : List ℕ) (n : ℕ) (out out' : List ℕ)
      → Refuses Err (files.Writes names times states n out out') (trace_numbers n)
  pub activity : (names times states : List ℕ) (n : ℕ) (out out' : List ℕ)
      → Refuses Err (ListsActivity names times states n out out') (trace_numbers n)
  pub activity_part : (names times states : List ℕ) (n from to : ℕ) (out out' : List ℕ)
      → Refuses Err (ListsPart names times states n from to out out') (part_numbers (to - from))
  pub changes_at : (names n : ℕ) (states : List ℕ) (row : ℕ)
      → Refuses Err (changes.RowChanged names n states row) changes_numbers
  pub rewrite : (names : ℕ) (tree steps tests edges operands steps' tests' edges' operands' : List ℕ)
      → Refuses Err
      (rewriting.Rewrites ρ names tree steps tests edges operands steps' tests' edges' operands')
      rewriting_numbers
  pub contradictions : (names : ℕ) (tree flags flags' : List ℕ)
      → Refuses Err (flagging.Contradicts ρ names tree flags flags') flag_numbers
  pub row_state : (names n : ℕ) (tree states : List ℕ) (row : ℕ)
      → Refuses Err (RowState ρ names n tree states row) row_numbers
  pub row_value : (names n : ℕ) (tree states : List ℕ) (row : ℕ)
      → Refuses Err (RowValue ρ names n tree states row) row_numbers
  pub values : (names n : ℕ) (tree states out out' : List ℕ)
      → Refuses Err (AllValues ρ names n tree states out out') rows_numbers
  pub row_answer_lem : (names n : ℕ) (tree states : List ℕ) (row : ℕ)
      → Refuses Err (RowAnswer ρ names n tree states row) row_numbers
  pub window_answer : (names n : ℕ) (tree states : List ℕ) (from to : ℕ)
      → Refuses Err (WindowAnswer ρ names n tree states from to) row_numbers
  pub match_row_lem : (names n : ℕ) (tree times states : List ℕ) (row : ℕ)
      → Refuses Err (RowMatch ρ names n tree times states row) timed_row_numbers
  pub match_all : (names n : ℕ) (tree times states answers tried given began answers' tried' given' began' : List ℕ)
      → Refuses Err
      (AllMatched ρ names n tree times states answers tried given began answers' tried' given' began') timed_numbers
  pub totals : (names n : ℕ) (tree states : List ℕ)
      → Refuses Err (RowTotals ρ names n tree states) rows_numbers
  pub correct : (names n : ℕ) (tree states answers : List ℕ) (row : ℕ) (new states' answers' : List ℕ)
      → Refuses Err (Correction ρ names n tree states answers row new states' answers') correction_numbers
  pub push : (names : ℕ) (tree : List ℕ) (queue : Queue) (time : ℕ) (row : List ℕ) (queue' : Queue)
      → Refuses Err (λ r. Push ρ names tree queue time row r queue') timed_numbers
  pub listed_match_row : (names n : ℕ) (tree steps tests edges operands states times : List ℕ) (row : ℕ)
      → Refuses Err (listed.ListedMatch ρ names n tree steps tests edges operands states times row)
      timed_row_numbers
  pub listed_match_all : (names n : ℕ) (tree steps tests edges operands states times answers tried given began answers'
      tried' given' began' : List ℕ)
      → Refuses Err
      (listed.ListedAll ρ names n tree steps tests edges operands states times answers tried given began answers' tried'
      given' began') timed_numbers
  pub listed_totals : (names n : ℕ) (tree steps tests edges operands states : List ℕ)
      → Refuses Err (listed.ListedTotals ρ names n tree steps tests edges operands states) rows_numbers
  pub listed_push : (names : ℕ) (tree steps tests edges operands : List ℕ) (queue : Queue) (time : ℕ) (row : List ℕ)
      (queue' : Queue)
      → Refuses Err (λ r. listed.ListedPush ρ names tree steps tests edges operands queue time row r
      queue')
      timed_numbers
  pub listed_fits : (names : ℕ) (tree steps tests edges operands : List ℕ)
      → Refuses Err (ListedFits names tree steps tests edges operands) fits_numbers
  pub list : (names n : ℕ) (tree times states out out' : List ℕ)
      → Refuses Err (ListsTree ρ names n tree times states out out') text_numbers_of_tree
  pub table_line : (names n : ℕ) (tree states pattern out out' : List ℕ)
      → Refuses Err (LinesTree ρ names n tree states pattern out out') text_numbers_of_tree
  pub line : (text out out' : List ℕ) → Refuses Err (Delivers text out out') line_numbers
