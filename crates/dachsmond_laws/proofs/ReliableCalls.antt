-- For each function of the library for C that hands over a number: it is 0 exactly where the call was done; where it is
-- not 0, it is the number of a refusal that the contract allows, from 1 to 19, and all lent memory is as it was; the
-- queue of a push is the one handed in. Names: the function's, and `-reliable`.
-- `dachsmond_listed_fits` hands over no number; `dachsmond_empty_queue` stands in FirstQueue.
use Prim.Native.Nat.{ℕ}
use mathlib.Core.Path.{◌≡◌}
use mathlib.Core.List.{List}
use Rattle.alf.specs.Values.{old_rules_lem}
use Rattle.basics.specs.Memory.{after}
use Rattle.alf.specs.declared.Rules.{Rules}
use Rattle.alf.specs.declared.Sort.{Sort}
use Rattle.names.specs.Check.{ChecksNames}
use Rattle.reader.specs.Reading.{ReadsText}
use Rattle.writer.specs.Writing as writer
use Rattle.trace_reader.specs.Reading.{Reads}
use Rattle.trace_writer.specs.Writing as traces
use Rattle.changes.specs.Call.{RowChanged}
use Rattle.row_calls.specs.Written.{RowState, RowValue, AllValues, RowAnswer}
use Rattle.row_calls.specs.Windows.{WindowAnswer}
use Rattle.matching_calls.specs.Matching.{RowMatch, AllMatched, RowTotals}
use Rattle.update_calls.specs.Correcting.{Correction}
use Rattle.queue_calls.specs.Pushing.{Takes, Push}
use Rattle.rewriting_calls.specs.Calls.{Rewrites}
use Rattle.contradictions.specs.Calls.{Contradicts}
use Rattle.listed_calls.specs.Listed as listed
use Rattle.listed_acceptance.specs.Fitting.{ListedFits}
use Rattle.tree_listings.specs.TreeTexts.{ListsTree, LinesTree}
use Rattle.figures.specs.Delivering.{Delivers}
use Rattle.table_lines.specs.Table.{heading_line, refused_line, total_line}
use Rattle.telling.specs.declared.Queue.{Queue}
use Rattle.telling.specs.Matching.{queue_of_lem, Pushes}
use Rattle.telling.specs.Listed.{ListedPushes}
use Rattle.demands.proofs.Numbers.{refused_numbers}
use Rattle.dachsmond_laws.specs.Reliable.{Reliable, Nothing, outcomes, expressions, readings, row_changes}
use Rattle.dachsmond_laws.specs.Reliable.{row_answers, matches, counts, pushes}
use Rattle.dachsmond_laws.proofs.Reliability.{of_outcome, of_expression, of_reading, of_changes, of_answer}
use Rattle.dachsmond_laws.proofs.Reliability.{of_match, of_counts, of_push}

-- texts
pub check_names_reliable : (names : List ℕ) → Reliable outcomes (ChecksNames names) Nothing
check_names_reliable names = of_outcome ((refused_numbers {ρ = old_rules_lem}).check_names_lem names) (λ f x. tt)

pub read_expression_reliable : {ρ : Rules} (names text : List ℕ) (sort : Sort)
    → Reliable expressions (ReadsText ρ names text sort) Nothing
read_expression_reliable names text sort = of_expression (refused_numbers.read_expression_lem names text sort)

pub write_expression_reliable : (names tree : List ℕ) (sort : Sort) (out out' : List ℕ)
    → Reliable outcomes (writer.Writes names tree sort out out') (λ r. out' ≡ out)
unfolding after
write_expression_reliable names tree sort out out' =
    of_outcome ((refused_numbers {ρ = old_rules_lem}).write_expression_lem names tree sort out out') (λ f x. x.memory)

-- trace files
pub read_trace_reliable : (file names times states names' times' states' : List ℕ)
    → Reliable readings (Reads file names times states names' times' states')
    (λ r. (names' ≡ names) × (times' ≡ times) × (states' ≡ states))
unfolding Reads
read_trace_reliable file names times states names' times' states' =
    of_reading ((refused_numbers {ρ = old_rules_lem}).read_trace file names times states names' times' states')
    (λ f x. (x.2.names_kept, x.2.times_kept, x.2.states_kept))

pub write_trace_reliable : (names times states : List ℕ) (n : ℕ) (out out' : List ℕ)
    → Reliable outcomes (traces.Writes names times states n out out') (λ r. out' ≡ out)
unfolding after
write_trace_reliable names times states n out out' =
    of_outcome ((refused_numbers {ρ = old_rules_lem}).write_trace names times states n out out') (λ f x. x.memory)

-- rows
pub changes_at_reliable : (names n : ℕ) (states : List ℕ) (row : ℕ)
    → Reliable row_changes (RowChanged names n states row) Nothing
changes_at_reliable names n states row = of_changes ((refused_numbers {ρ = old_rules_lem}).changes_at names n states row)

module _ (names n : ℕ) (tree states : List ℕ) where
  pub row_state_reliable : {ρ : Rules} (row : ℕ) → Reliable outcomes (RowState ρ names n tree states row) Nothing
  row_state_reliable row = of_outcome (refused_numbers.row_state names n tree states row) (λ f x. tt)

  pub row_value_reliable : {ρ : Rules} (row : ℕ) → Reliable outcomes (RowValue ρ names n tree states row) Nothing
  row_value_reliable row = of_outcome (refused_numbers.row_value names n tree states row) (λ f x. tt)

  pub values_reliable : {ρ : Rules} (out out' : List ℕ)
      → Reliable outcomes (AllValues ρ names n tree states out out') (λ r. out' ≡ out)
  unfolding after
  values_reliable out out' = of_outcome (refused_numbers.values names n tree states out out') (λ f x. x.memory)

  pub row_answer_reliable : {ρ : Rules} (row : ℕ) → Reliable row_answers (RowAnswer ρ names n tree states row) Nothing
  row_answer_reliable row = of_answer (refused_numbers.row_answer_lem names n tree states row)

  pub window_answer_reliable : {ρ : Rules} (from to : ℕ)
      → Reliable row_answers (WindowAnswer ρ names n tree states from to) Nothing
  window_answer_reliable from to = of_answer (refused_numbers.window_answer names n tree states from to)

  pub match_row_reliable : {ρ : Rules} (times : List ℕ) (row : ℕ)
      → Reliable matches (RowMatch ρ names n tree times states row) Nothing
  match_row_reliable times row = of_match (refused_numbers.match_row_lem names n tree times states row)

  pub match_all_reliable : {ρ : Rules} (times answers tried given began answers' tried' given' began' : List ℕ)
      → Reliable outcomes (AllMatched ρ names n tree times states answers tried given began answers' tried' given'
      began')
      (λ r. (answers' ≡ answers) × (tried' ≡ tried) × (given' ≡ given) × (began' ≡ began))
  unfolding after
  match_all_reliable times answers tried given began answers' tried' given' began' =
      of_outcome
      (refused_numbers.match_all names n tree times states answers tried given began answers' tried' given' began')
      (λ f x. (x.answers_memory, x.tried_memory, x.given_memory, x.began_memory))

  pub totals_reliable : {ρ : Rules} → Reliable counts (RowTotals ρ names n tree states) Nothing
  totals_reliable = of_counts (refused_numbers.totals names n tree states)

  pub correct_reliable : {ρ : Rules} (answers : List ℕ) (row : ℕ) (new states' answers' : List ℕ)
      → Reliable outcomes (Correction ρ names n tree states answers row new states' answers')
      (λ r. (states' ≡ states) × (answers' ≡ answers))
  unfolding after
  correct_reliable answers row new states' answers' =
      of_outcome (refused_numbers.correct names n tree states answers row new states' answers')
      (λ f x. (x.states_memory, x.answers_memory))

-- the queue of a push is part of what is handed over
pub push_reliable : {ρ : Rules} (names : ℕ) (tree : List ℕ) (queue : Queue) (time : ℕ) (row : List ℕ)
    → Reliable (pushes queue) (Pushes ρ names tree (queue_of_lem queue) time row) (λ r. r.queue ≡ queue)
unfolding Takes
push_reliable {ρ} names tree queue time row =
    of_push queue (Push ρ names tree (queue_of_lem queue) time row)
    ((refused_numbers {ρ = ρ}).push names tree (queue_of_lem queue) time row (queue_of_lem queue)) (λ f s x. x.comes.1)

-- alternatives
module _ {ρ : Rules} (names : ℕ) (tree : List ℕ) where
  pub rewrite_reliable : (steps tests edges operands steps' tests' edges' operands' : List ℕ)
      → Reliable outcomes (Rewrites ρ names tree steps tests edges operands steps' tests' edges' operands')
      (λ r. (steps' ≡ steps) × (tests' ≡ tests) × (edges' ≡ edges) × (operands' ≡ operands))
  unfolding after
  rewrite_reliable steps tests edges operands steps' tests' edges' operands' =
      of_outcome
      ((refused_numbers {ρ = ρ}).rewrite names tree steps tests edges operands steps' tests' edges' operands')
      (λ f x.
      let l = x.memory in
      (l.steps_are, l.tests_are, l.edges_are, l.operands_are))

  pub contradictions_reliable : (flags flags' : List ℕ)
      → Reliable outcomes (Contradicts ρ names tree flags flags') (λ r. flags' ≡ flags)
  unfolding after
  contradictions_reliable flags flags' =
      of_outcome ((refused_numbers {ρ = ρ}).contradictions names tree flags flags') (λ f x. x.memory)

-- alternatives in lists
module _ (names n : ℕ) (tree steps tests edges operands states : List ℕ) where
  pub listed_match_row_reliable : {ρ : Rules} (times : List ℕ) (row : ℕ)
      → Reliable matches (listed.ListedMatch ρ names n tree steps tests edges operands states times row) Nothing
  listed_match_row_reliable times row =
      of_match (refused_numbers.listed_match_row names n tree steps tests edges operands states times row)

  pub listed_match_all_reliable : {ρ : Rules} (times answers tried given began answers' tried' given' began' : List ℕ)
      → Reliable outcomes
      (listed.ListedAll ρ names n tree steps tests edges operands states times answers tried given began answers' tried'
      given' began')
      (λ r. (answers' ≡ answers) × (tried' ≡ tried) × (given' ≡ given) × (began' ≡ began))
  unfolding after
  listed_match_all_reliable times answers tried given began answers' tried' given' began' =
      of_outcome
      (refused_numbers.listed_match_all names n tree steps tests edges operands states times answers tried given began
      answers' tried' given' began')
      (λ f x. (x.answers_memory, x.tried_memory, x.given_memory, x.began_memory))

  pub listed_totals_reliable : {ρ : Rules} → Reliable counts
      (listed.ListedTotals ρ names n tree steps tests edges operands states) Nothing
  listed_totals_reliable = of_counts (refused_numbers.listed_totals names n tree steps tests edges operands states)

pub listed_push_reliable : {ρ : Rules} (names : ℕ) (tree steps tests edges operands : List ℕ) (queue : Queue)
    (time : ℕ) (row : List ℕ)
    → Reliable (pushes queue) (ListedPushes ρ names tree steps tests edges operands (queue_of_lem queue) time row)
    (λ r. r.queue ≡ queue)
unfolding listed.Takes
listed_push_reliable {ρ} names tree steps tests edges operands queue time row =
    of_push queue (listed.ListedPush ρ names tree steps tests edges operands (queue_of_lem queue) time row)
    ((refused_numbers {ρ = ρ}).listed_push names tree steps tests edges operands (queue_of_lem queue) time row
    (queue_of_lem queue)) (λ f s x. x.comes.1)

pub listed_fits_reliable : (names : ℕ) (tree steps tests edges operands : List ℕ)
    → Reliable outcomes (ListedFits names tree steps tests edges operands) Nothing
listed_fits_reliable names tree steps tests edges operands =
    of_outcome ((refused_numbers {ρ = old_rules_lem}).listed_fits names tree steps tests edges operands) (λ f x. tt)

-- the listing, and the table's line of a pattern, by a tree
pub list_reliable : {ρ : Rules} (names n : ℕ) (tree times states out out' : List ℕ)
    → Reliable outcomes (ListsTree ρ names n tree times states out out') (λ r. out' ≡ out)
unfolding after
list_reliable names n tree times states out out' =
    of_outcome (refused_numbers.list names n tree times states out out') (λ f x. x.memory)

pub table_line_reliable : {ρ : Rules} (names n : ℕ) (tree states pattern out out' : List ℕ)
    → Reliable outcomes (LinesTree ρ names n tree states pattern out out') (λ r. out' ≡ out)
unfolding after
table_line_reliable names n tree states pattern out out' =
    of_outcome (refused_numbers.table_line names n tree states pattern out out') (λ f x. x.memory)

-- a line of the table, whatever it holds
line_reliable : (text out out' : List ℕ) → Reliable outcomes (Delivers text out out') (λ r. out' ≡ out)
unfolding after
line_reliable text out out' = of_outcome ((refused_numbers {ρ = old_rules_lem}).line text out out') (λ f x. x.memory)

module _ (out out' : List ℕ) where
  pub table_heading_reliable : Reliable outcomes (Delivers heading_line out out') (λ r. out' ≡ out)
  table_heading_reliable = line_reliable heading_line out out'

  pub table_refused_reliable : (pattern : List ℕ) (number place : ℕ)
      → Reliable outcomes (Delivers (refused_line pattern number place) out out') (λ r. out' ≡ out)
  table_refused_reliable pattern number place = line_reliable (refused_line pattern number place) out out'

  pub table_total_reliable : (yeses unknowns noes patterns events : ℕ)
      → Reliable outcomes (Delivers (total_line yeses unknowns noes patterns events) out out') (λ r. out' ≡ out)
  table_total_reliable yeses unknowns noes patterns events =
      line_reliable (total_line yeses unknowns noes patterns events) out out'
