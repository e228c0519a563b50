-- The numbers of the public calls (specs/Numbers): their orders have document 01's numbers, and no contract allows a
-- refusal with another; each is a number of the table, from 1 to 19.
--   numbers            the orders, by computation; that of trace writing by the number of rows
--   by_order           a contract that tells a refusal by its order refuses with the order's numbers
--   refused_numbers    the public calls
use Rattle.std.specs.Prelude.{Err}
use Prim.Native.Nat.{ℕ, zero, suc, ◌-◌, ◌≤◌, max}
use mathlib.Core.Path.{◌≡◌, refl, sym, ap, subst, ◌∙◌}
use mathlib.Core.Bool.{Bool, true, false, ◌||◌}
use mathlib.Core.Logic.{◌⊎◌, inl, inr}
use mathlib.Core.List.{List, [], ◌∷◌, ◌++◌}
use lib.Dec.{eqb, leb}
use lib.ListN.{length}
use borrow.Author.Tests.{eqb-true, leb-true}
use Rattle.basics.specs.declared.Refusal.{Refusal}
use Rattle.basics.specs.Words.{all}
use Rattle.basics.proofs.Bools.{never, and_left, and_right}
use Rattle.alf.specs.declared.Rules.{Rules}
use Rattle.alf.specs.Values.{old_rules_lem}
use Rattle.alf.specs.declared.Sort.{Sort}
use Rattle.alf.specs.States.{among}
use Rattle.alf.specs.Refusals.{Row, Order, check, numbers_of, RefusedWith, RefusedBy, Comes}
use Rattle.alf.proofs.Outcomes.{refused_among}
use Rattle.tokens.specs.Texts as tokens
use Rattle.reader.specs.Reading as texts
use Rattle.writer.specs.Writing as writing
use Rattle.trace_format.specs.declared.Mark.{Mark}
use Rattle.trace_format.specs.declared.Mark.TheVariants as mark
use Rattle.trace_format.specs.Records.{contents, marked_order, mark_here}
use Rattle.trace_reader.specs.Reading.{FileRefused, RoomRefused, room_order, Reads}
use Rattle.trace_writer.specs.Writing as files
use Rattle.changes.specs.Call as changes
use Rattle.rewriting_calls.specs.Calls as rewriting
use Rattle.contradictions.specs.Calls as flagging
use Rattle.row_calls.specs.Written.{Tells}
use Rattle.queue_calls.specs.Pushing as pushing
use Rattle.listed_calls.specs.Listed as listed
use Rattle.matching_calls.specs.Matching.{expression, Finds, Counts}
use Rattle.tree_listings.specs.TreeTexts.{pattern_listing, totals_line}
use Rattle.activity.specs.Activity.{part_order}
use Rattle.text_reading.specs.Reading.{read_order, MakesTrace}
use Rattle.trace_texts.specs.Texts.{said_order}
use Rattle.demands.specs.CallNumbers.{trace_numbers, record_numbers, room_numbers, file_numbers, row_by_row}
use Rattle.demands.specs.CallNumbers.{part_numbers, making_numbers}
use Rattle.demands.specs.Numbers.{in_table, Numbers, Refuses, RefusedNumbers}
use Rattle.demands.proofs.NumberLists.{one_passes, numbers_both, rows_numbers_lem, rows_in_table}
use Rattle.demands.proofs.NumberLists.{record_numbers_lem, of_a_file, of_its_room}
use Rattle.demands.proofs.MakingNumbers.{said_numbers_lem, making_known}

-- what is asked of a trace in lists, then 9
trace_numbers_lem : (names times states : List ℕ) (n : ℕ) (row : Row)
    → numbers_of (files.lists_order names times states n ++ (check 9 row ∷ [])) ≡ trace_numbers n
unfolding numbers_of
trace_numbers_lem names times states n row =
    ap (λ ns. 18 ∷ 12 ∷ ns)
    (numbers_both (files.rows_order _ times states 0 n) _
    ∙ ap (λ ns. ns ++ (9 ∷ [])) (rows_numbers_lem _ times states 0 n))

part_numbers_lem : (names times states : List ℕ) (n from to : ℕ) (room : ℕ)
    → numbers_of (part_order names times states n from to room) ≡ part_numbers (to - from)
unfolding numbers_of
part_numbers_lem names times states n from to room =
    ap (λ ns. 18 ∷ 12 ∷ 19 ∷ ns)
    (numbers_both (files.rows_order _ times states from (to - from)) _
    ∙ ap (λ ns. ns ++ (9 ∷ [])) (rows_numbers_lem _ times states from (to - from)))

-- The orders of the public calls.
pub numbers : (ρ : Rules) → Numbers ρ
unfolding numbers_of tokens.order texts.tree_order writing.order rewriting.tree_order rewriting.room_order
    flagging.flag_order said_order
numbers ρ =
    record {
      check_names_lem = λ names. refl;
      read_expression_lem = λ names text sort. refl;
      write_expression_lem = λ names tree sort room. refl;
      read_record = λ file k r. record_numbers_lem file k r (mark_here file k r);
      read_room = λ names times states k n. refl;
      make_nothing = λ size. refl;
      make_trace = λ size head rows. said_numbers_lem size head rows;
      write_trace = λ names times states n room. trace_numbers_lem names times states n _;
      activity = λ names times states n room. trace_numbers_lem names times states n _;
      activity_part = λ names times states n from to room. part_numbers_lem names times states n from to _;
      changes_at = λ names n states row. refl;
      rewrite = λ names tree xs steps tests edges operands. refl;
      contradictions = λ names tree xs flags. refl;
      row_state = λ names n tree states row. refl;
      values = λ names n tree states out. refl;
      row_answer_lem = λ names n tree states row. refl;
      match_row_lem = λ names n tree times states row. refl;
      match_all = λ names n tree times states answers tried given began. refl;
      totals = λ names n tree states. refl;
      correct = λ names n tree states answers row new. refl;
      push = λ names tree queue time row. refl;
      listed_match_row = λ names n tree steps tests edges operands states times row. refl;
      listed_match_all = λ names n tree steps tests edges operands states times answers tried given began. refl;
      listed_totals = λ names n tree steps tests edges operands states. refl;
      listed_push = λ names tree steps tests edges operands queue time row. refl;
      listed_fits = λ names tree steps tests edges operands. refl;
      list = λ names n tree times states text room. refl;
      table_line = λ names n tree states text room. refl;
      line = λ text room. refl;
    }

-- What a contract refuses.
one_in_table : (ns : List ℕ) (n : ℕ) → all in_table ns ≡ true → among n ns ≡ true → (1 ≤ n) × (n ≤ 19)
unfolding in_table
one_in_table ns n a m =
    let t = one_passes in_table ns n a m in
    (leb-true 1 n (and_left (leb 1 n) _ t), leb-true n 19 (and_right (leb 1 n) _ t))

module _ {R : Type 0} {refused : Refusal → R} {allows : R → Type 0} where
  refuses : (ns : List ℕ) → all in_table ns ≡ true
      → ((r : Refusal) → allows (refused r) → among r.number ns ≡ true) → Refuses refused allows ns
  refuses ns a m = record { one_of = m; in_table_lem = λ r x. one_in_table ns r.number a (m r x) }

  by_rows : (o : Order) {ns : List ℕ} → numbers_of o ≡ ns → all in_table ns ≡ true
      → ((r : Refusal) → allows (refused r) → RefusedWith o r.number r.place) → Refuses refused allows ns
  by_rows o {ns} e a reason =
      refuses ns a (λ r x. ap (among r.number) (sym e) ∙ refused_among o r.number r.place (reason r x))

  pub by_order : (o : Order) {ns : List ℕ} → numbers_of o ≡ ns → all in_table ns ≡ true
      → ((r : Refusal) → allows (refused r) → RefusedBy o r) → Refuses refused allows ns
  by_order o e a reason = by_rows o e a (λ r x. (reason r x).by)

-- the two calls that read tell their refusals in their own words
text_refused : (ρ : Rules) (names text : List ℕ) (sort : Sort) (r : Refusal)
    → texts.ReadsText ρ names text sort (Err r)
    → RefusedWith (texts.read_order ρ names text sort) r.number r.place
text_refused ρ names text sort r (texts.refused q h) = h.by

file_refused : {file names times states : List ℕ} (n p : ℕ)
    → FileRefused file n p ⊎ RoomRefused file names times states n p → among n file_numbers ≡ true
file_refused {file} n p (inl h) =
    let m = mark_here file h.names h.rows in
    let order = marked_order file h.names h.rows m in
    one_passes (λ k. among k file_numbers) (record_numbers m) n (of_a_file m)
    (ap (among n) (sym ((numbers old_rules_lem).read_record file h.names h.rows))
    ∙ refused_among order n p h.refused)
file_refused {file} {names} {times} {states} n p (inr h) =
    let order = room_order names times states h.k h.n in
    one_passes (λ k. among k file_numbers) room_numbers n of_its_room
    (ap (among n) (sym ((numbers old_rules_lem).read_room names times states h.k h.n))
    ∙ refused_among order n p h.refused)

making_refused : (text names times states : List ℕ) (n p : ℕ) → RefusedWith (read_order text names times states) n p
    → among n making_numbers ≡ true
making_refused text names times states n p h =
    let order = read_order text names times states in
    one_passes (λ k. among k making_numbers) (numbers_of order) n (making_known text names times states)
    (refused_among order n p h)

pub refused_numbers : {ρ : Rules} → RefusedNumbers ρ
unfolding all in_table Comes Reads MakesTrace changes.RowChanged Tells Finds Counts pushing.Takes listed.Takes
refused_numbers {ρ} =
    record {
      check_names_lem = λ names. by_order _ ((numbers ρ).check_names_lem names) refl (λ r x. x);
      read_expression_lem = λ names text sort.
          by_rows _ ((numbers ρ).read_expression_lem names text sort) refl (λ r x. text_refused ρ names text sort r x);
      write_expression_lem = λ names tree sort out out'.
          by_order _ ((numbers ρ).write_expression_lem names tree sort _) refl (λ r x. x.outcome);
      read_trace = λ file names times states names' times' states'.
          refuses file_numbers refl (λ r x. file_refused r.number r.place x.0);
      make_trace = λ text names times states names' times' states'.
          refuses making_numbers refl (λ r x. making_refused text names times states r.number r.place x.0.by);
      write_trace = λ names times states n out out'.
          by_order _ ((numbers ρ).write_trace names times states n _) (rows_in_table n) (λ r x. x.outcome);
      activity = λ names times states n out out'.
          by_order _ ((numbers ρ).activity names times states n _) (rows_in_table n) (λ r x. x.outcome);
      activity_part = λ names times states n from to out out'.
          by_order _ ((numbers ρ).activity_part names times states n from to _) (rows_in_table (to - from))
          (λ r x. x.outcome);
      changes_at = λ names n states row. by_order _ ((numbers ρ).changes_at names n states row) refl (λ r x. x);
      rewrite = λ names tree steps tests edges operands steps' tests' edges' operands'.
          by_order _ ((numbers ρ).rewrite names tree _ steps tests edges operands) refl (λ r x. x.outcome);
      contradictions = λ names tree flags flags'.
          by_order _ ((numbers ρ).contradictions names tree _ flags) refl (λ r x. x.outcome);
      row_state = λ names n tree states row.
          by_order _ ((numbers ρ).row_state names n tree states row) refl (λ r x. x.comes);
      row_value = λ names n tree states row.
          by_order _ ((numbers ρ).row_state names n tree states row) refl (λ r x. x.comes);
      values = λ names n tree states out out'.
          by_order _ ((numbers ρ).values names n tree states out) refl (λ r x. x.comes);
      row_answer_lem = λ names n tree states row.
          by_order _ ((numbers ρ).row_answer_lem names n tree states row) refl (λ r x. x.comes);
      window_answer = λ names n tree states from to.
          by_order _ ((numbers ρ).row_answer_lem names n tree states (max from to)) refl (λ r x. x.comes);
      match_row_lem = λ names n tree times states row.
          by_order _ ((numbers ρ).match_row_lem names n tree times states row) refl (λ r x. x.comes);
      match_all = λ names n tree times states answers tried given began answers' tried' given' began'.
          by_order _ ((numbers ρ).match_all names n tree times states answers tried given began) refl (λ r x. x.comes);
      totals = λ names n tree states. by_order _ ((numbers ρ).totals names n tree states) refl (λ r x. x.comes);
      correct = λ names n tree states answers row new states' answers'.
          by_order _ ((numbers ρ).correct names n tree states answers row new) refl (λ r x. x.comes);
      push = λ names tree queue time row queue'.
          by_order _ ((numbers ρ).push names tree queue time row) refl (λ r x. x.comes.0);
      listed_match_row = λ names n tree steps tests edges operands states times row.
          by_order _ ((numbers ρ).listed_match_row names n tree steps tests edges operands states times row) refl
          (λ r x. x.comes);
      listed_match_all = λ names n tree steps tests edges operands states times answers tried given began answers'
          tried' given' began'.
          by_order _
          ((numbers ρ).listed_match_all names n tree steps tests edges operands states times answers tried given began)
          refl (λ r x. x.comes);
      listed_totals = λ names n tree steps tests edges operands states.
          by_order _ ((numbers ρ).listed_totals names n tree steps tests edges operands states) refl (λ r x. x.comes);
      listed_push = λ names tree steps tests edges operands queue time row queue'.
          by_order _ ((numbers ρ).listed_push names tree steps tests edges operands queue time row) refl
          (λ r x. x.comes.0);
      listed_fits = λ names tree steps tests edges operands.
          by_order _ ((numbers ρ).listed_fits names tree steps tests edges operands) refl (λ r x. x.comes);
      list = λ names n tree times states out out'.
          by_order _
          ((numbers ρ).list names n tree times states (pattern_listing ρ names times states (expression ρ tree names))
          (length out)) refl (λ r x. x.comes);
      table_line = λ names n tree states pattern out out'.
          by_order _
          ((numbers ρ).table_line names n tree states (totals_line ρ names n states pattern (expression ρ tree names))
          (length out)) refl (λ r x. x.comes);
      line = λ text out out'. by_order _ ((numbers ρ).line text _) refl (λ r x. x.outcome);
    }
