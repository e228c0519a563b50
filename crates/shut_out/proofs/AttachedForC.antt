-- The same as Attached, for the library for C: what a function of `dachsmond` ensures is that it hands on (`Hands`) a
-- result that the call's contract allows, of its arguments at entry (a), its result (r) and its arguments at exit (e);
-- and it requires nothing. By `Exported` (dachsmond_c) the same holds of the function of include/dachsmond.h of the same
-- name. So what is shut out of a call is shut out of its function for C.
-- Here: texts, files, rows, matching, a correction, a push. The others stand in AttachedListsForC.
use Prim.Native.Nat.{ℕ, ◌/◌}
use mathlib.Core.Path.{◌≡◌}
use lib.ListN.{length, replicate}
use contract.Lifetimes.{Lfts}
use borrow.Fn.Kinds.{Dens}
use Rattle.alf.specs.declared.Rules.{Rules}
use Rattle.alf.specs.Values.{old_rules_lem}
use Rattle.alf.specs.Refusals.{Comes}
use Rattle.names.specs.Check.{names_order}
use Rattle.reader.specs.Reading.{ReadsText}
use Rattle.writer.specs.Writing as writing
use Rattle.trace_reader.specs.Reading.{Reads}
use Rattle.trace_writer.specs.Writing as trace_writing
use Rattle.changes.specs.Call as changes
use Rattle.rewriting_calls.specs.Calls.{Rewrites}
use Rattle.contradictions.specs.Calls.{Contradicts}
use Rattle.row_calls.specs.Written.{RowState, RowValue, AllValues, RowAnswer}
use Rattle.row_calls.specs.Windows.{WindowAnswer}
use Rattle.matching_calls.specs.Matching.{RowMatch, AllMatched, RowTotals}
use Rattle.update_calls.specs.Correcting.{Correction}
use Rattle.telling.specs.Handing.{Hands, sort_of_lem, told, told_expression, told_trace, told_changes, told_answer}
use Rattle.telling.specs.Matching.{told_match, told_counts, queue_of_lem, Pushes, told_push}
use Rattle.telling.specs.declared.Told.{Told}
use Rattle.telling.specs.declared.Expression.{Expression}
use Rattle.telling.specs.declared.Trace.{Trace}
use Rattle.telling.specs.declared.Changed.{Changed}
use Rattle.telling.specs.declared.Answered.{Answered}
use Rattle.telling.specs.declared.Matched.{Matched}
use Rattle.telling.specs.declared.Counted.{Counted}
use Rattle.telling.specs.declared.Queue.{Queue}
use Rattle.telling.specs.declared.Pushed.{Pushed}
use Rattle.dachsmond.proofs.texts.dachsmond_check_names.Reads as check_names_says
use Rattle.dachsmond.proofs.texts.dachsmond_check_names.Kinds as check_names_kinds
use Rattle.dachsmond.proofs.texts.dachsmond_read_expression.Reads as read_expression_says
use Rattle.dachsmond.proofs.texts.dachsmond_read_expression.Kinds as read_expression_kinds
use Rattle.dachsmond.proofs.texts.dachsmond_write_expression.Reads as write_expression_says
use Rattle.dachsmond.proofs.texts.dachsmond_write_expression.Kinds as write_expression_kinds
use Rattle.dachsmond.proofs.rules.dachsmond_old_rules.Reads as old_rules_says
use Rattle.dachsmond.proofs.rules.dachsmond_old_rules.Kinds as old_rules_kinds
use Rattle.dachsmond.proofs.versions.dachsmond_version.Reads as version_says
use Rattle.dachsmond.proofs.versions.dachsmond_version.Kinds as version_kinds
use Rattle.dachsmond.proofs.files.dachsmond_read_trace.Reads as read_trace_says
use Rattle.dachsmond.proofs.files.dachsmond_read_trace.Kinds as read_trace_kinds
use Rattle.dachsmond.proofs.files.dachsmond_write_trace.Reads as write_trace_says
use Rattle.dachsmond.proofs.files.dachsmond_write_trace.Kinds as write_trace_kinds
use Rattle.dachsmond.proofs.rows.dachsmond_changes_at.Reads as changes_at_says
use Rattle.dachsmond.proofs.rows.dachsmond_changes_at.Kinds as changes_at_kinds
use Rattle.dachsmond.proofs.written.dachsmond_row_state.Reads as row_state_says
use Rattle.dachsmond.proofs.written.dachsmond_row_state.Kinds as row_state_kinds
use Rattle.dachsmond.proofs.written.dachsmond_row_value.Reads as row_value_says
use Rattle.dachsmond.proofs.written.dachsmond_row_value.Kinds as row_value_kinds
use Rattle.dachsmond.proofs.written.dachsmond_values.Reads as values_says
use Rattle.dachsmond.proofs.written.dachsmond_values.Kinds as values_kinds
use Rattle.dachsmond.proofs.written.dachsmond_row_answer.Reads as row_answer_says
use Rattle.dachsmond.proofs.written.dachsmond_row_answer.Kinds as row_answer_kinds
use Rattle.dachsmond.proofs.written.dachsmond_window_answer.Reads as window_answer_says
use Rattle.dachsmond.proofs.written.dachsmond_window_answer.Kinds as window_answer_kinds
use Rattle.dachsmond.proofs.matching.dachsmond_match_row.Reads as match_row_says
use Rattle.dachsmond.proofs.matching.dachsmond_match_row.Kinds as match_row_kinds
use Rattle.dachsmond.proofs.matching.dachsmond_match_all.Reads as match_all_says
use Rattle.dachsmond.proofs.matching.dachsmond_match_all.Kinds as match_all_kinds
use Rattle.dachsmond.proofs.matching.dachsmond_totals.Reads as totals_says
use Rattle.dachsmond.proofs.matching.dachsmond_totals.Kinds as totals_kinds
use Rattle.dachsmond.proofs.matching.dachsmond_rewrite.Reads as rewrite_says
use Rattle.dachsmond.proofs.matching.dachsmond_rewrite.Kinds as rewrite_kinds
use Rattle.dachsmond.proofs.matching.dachsmond_contradictions.Reads as contradictions_says
use Rattle.dachsmond.proofs.matching.dachsmond_contradictions.Kinds as contradictions_kinds
use Rattle.dachsmond.proofs.changing.dachsmond_correct.Reads as correct_says
use Rattle.dachsmond.proofs.changing.dachsmond_correct.Kinds as correct_kinds
use Rattle.dachsmond.proofs.changing.dachsmond_empty_queue.Reads as empty_queue_says
use Rattle.dachsmond.proofs.changing.dachsmond_empty_queue.Kinds as empty_queue_kinds
use Rattle.dachsmond.proofs.changing.dachsmond_push.Reads as push_says
use Rattle.dachsmond.proofs.changing.dachsmond_push.Kinds as push_kinds

pub check_names_lem : (κs : Lfts 1) (a : Dens κs check_names_kinds.ps) → check_names_says.Pre κs a
    × ((r : Told) (e : Dens κs check_names_kinds.ps) → check_names_says.Post κs a r e
    → Hands (Comes (names_order a.0.now) (λ k. k ≡ length a.0.now / 32)) told r)
check_names_lem κs a = (tt, λ r e p. p)

pub read_expression_lem : (κs : Lfts 2) (a : Dens κs read_expression_kinds.ps) → read_expression_says.Pre κs a
    × ((r : Expression) (e : Dens κs read_expression_kinds.ps) → read_expression_says.Post κs a r e
    → Hands (ReadsText a.0 a.1.0.now a.1.1.0.now (sort_of_lem a.1.1.1.0)) told_expression r)
read_expression_lem κs a = (tt, λ r e p. p)

pub write_expression_lem : (κs : Lfts 3) (a : Dens κs write_expression_kinds.ps) → write_expression_says.Pre κs a
    × ((r : Told) (e : Dens κs write_expression_kinds.ps) → write_expression_says.Post κs a r e
    → Hands (writing.Writes a.0.now a.1.0.now (sort_of_lem a.1.1.0) a.1.1.1.0.now
    e.1.1.1.0.now) told r)
write_expression_lem κs a = (tt, λ r e p. p)

pub read_trace : (κs : Lfts 4) (a : Dens κs read_trace_kinds.ps) → read_trace_says.Pre κs a
    × ((r : Trace) (e : Dens κs read_trace_kinds.ps) → read_trace_says.Post κs a r e
    → Hands (Reads a.0.now a.1.0.now a.1.1.0.now a.1.1.1.0.now e.1.0.now
    e.1.1.0.now e.1.1.1.0.now) told_trace r)
read_trace κs a = (tt, λ r e p. p)

pub write_trace : (κs : Lfts 4) (a : Dens κs write_trace_kinds.ps) → write_trace_says.Pre κs a
    × ((r : Told) (e : Dens κs write_trace_kinds.ps) → write_trace_says.Post κs a r e
    → Hands (trace_writing.Writes a.0.now a.1.0.now a.1.1.0.now a.1.1.1.0
    a.1.1.1.1.0.now e.1.1.1.1.0.now) told r)
write_trace κs a = (tt, λ r e p. p)

pub changes_at : (κs : Lfts 1) (a : Dens κs changes_at_kinds.ps) → changes_at_says.Pre κs a
    × ((r : Changed) (e : Dens κs changes_at_kinds.ps) → changes_at_says.Post κs a r e
    → Hands (changes.RowChanged a.0 a.1.0 a.1.1.0.now a.1.1.1.0) told_changes r)
changes_at κs a = (tt, λ r e p. p)

pub row_state : (κs : Lfts 2) (a : Dens κs row_state_kinds.ps) → row_state_says.Pre κs a
    × ((r : Told) (e : Dens κs row_state_kinds.ps) → row_state_says.Post κs a r e
    → Hands (RowState a.0 a.1.0 a.1.1.0 a.1.1.1.0.now a.1.1.1.1.0.now
    a.1.1.1.1.1.0) told r)
row_state κs a = (tt, λ r e p. p)

pub row_value : (κs : Lfts 2) (a : Dens κs row_value_kinds.ps) → row_value_says.Pre κs a
    × ((r : Told) (e : Dens κs row_value_kinds.ps) → row_value_says.Post κs a r e
    → Hands (RowValue a.0 a.1.0 a.1.1.0 a.1.1.1.0.now a.1.1.1.1.0.now
    a.1.1.1.1.1.0) told r)
row_value κs a = (tt, λ r e p. p)

pub values : (κs : Lfts 3) (a : Dens κs values_kinds.ps) → values_says.Pre κs a
    × ((r : Told) (e : Dens κs values_kinds.ps) → values_says.Post κs a r e
    → Hands (AllValues a.0 a.1.0 a.1.1.0 a.1.1.1.0.now a.1.1.1.1.0.now
    a.1.1.1.1.1.0.now
    e.1.1.1.1.1.0.now) told r)
values κs a = (tt, λ r e p. p)

pub row_answer_lem : (κs : Lfts 2) (a : Dens κs row_answer_kinds.ps) → row_answer_says.Pre κs a
    × ((r : Answered) (e : Dens κs row_answer_kinds.ps) → row_answer_says.Post κs a r e
    → Hands (RowAnswer a.0 a.1.0 a.1.1.0 a.1.1.1.0.now a.1.1.1.1.0.now
    a.1.1.1.1.1.0) told_answer r)
row_answer_lem κs a = (tt, λ r e p. p)

pub window_answer : (κs : Lfts 2) (a : Dens κs window_answer_kinds.ps) → window_answer_says.Pre κs a
    × ((r : Answered) (e : Dens κs window_answer_kinds.ps) → window_answer_says.Post κs a r e
    → Hands (WindowAnswer a.0 a.1.0 a.1.1.0 a.1.1.1.0.now
    a.1.1.1.1.0.now a.1.1.1.1.1.0 a.1.1.1.1.1.1.0) told_answer r)
window_answer κs a = (tt, λ r e p. p)

pub match_row_lem : (κs : Lfts 3) (a : Dens κs match_row_kinds.ps) → match_row_says.Pre κs a
    × ((r : Matched) (e : Dens κs match_row_kinds.ps) → match_row_says.Post κs a r e
    → Hands (RowMatch a.0 a.1.0 a.1.1.0 a.1.1.1.0.now a.1.1.1.1.0.now
    a.1.1.1.1.1.0.now a.1.1.1.1.1.1.0) told_match r)
match_row_lem κs a = (tt, λ r e p. p)

pub match_all : (κs : Lfts 7) (a : Dens κs match_all_kinds.ps) → match_all_says.Pre κs a
    × ((r : Told) (e : Dens κs match_all_kinds.ps) → match_all_says.Post κs a r e
    → Hands (AllMatched a.0 a.1.0 a.1.1.0 a.1.1.1.0.now a.1.1.1.1.0.now
    a.1.1.1.1.1.0.now a.1.1.1.1.1.1.0.now a.1.1.1.1.1.1.1.0.now
    a.1.1.1.1.1.1.1.1.0.now a.1.1.1.1.1.1.1.1.1.0.now
    e.1.1.1.1.1.1.0.now e.1.1.1.1.1.1.1.0.now
    e.1.1.1.1.1.1.1.1.0.now e.1.1.1.1.1.1.1.1.1.0.now) told r)
match_all κs a = (tt, λ r e p. p)

pub totals : (κs : Lfts 2) (a : Dens κs totals_kinds.ps) → totals_says.Pre κs a
    × ((r : Counted) (e : Dens κs totals_kinds.ps) → totals_says.Post κs a r e
    → Hands (RowTotals a.0 a.1.0 a.1.1.0 a.1.1.1.0.now
    a.1.1.1.1.0.now) told_counts r)
totals κs a = (tt, λ r e p. p)

pub rewrite : (κs : Lfts 5) (a : Dens κs rewrite_kinds.ps) → rewrite_says.Pre κs a
    × ((r : Told) (e : Dens κs rewrite_kinds.ps) → rewrite_says.Post κs a r e
    → Hands (Rewrites a.0 a.1.0 a.1.1.0.now a.1.1.1.0.now a.1.1.1.1.0.now
    a.1.1.1.1.1.0.now a.1.1.1.1.1.1.0.now e.1.1.1.0.now e.1.1.1.1.0.now
    e.1.1.1.1.1.0.now e.1.1.1.1.1.1.0.now) told r)
rewrite κs a = (tt, λ r e p. p)

pub contradictions : (κs : Lfts 2) (a : Dens κs contradictions_kinds.ps) → contradictions_says.Pre κs a
    × ((r : Told) (e : Dens κs contradictions_kinds.ps) → contradictions_says.Post κs a r e
    → Hands (Contradicts a.0 a.1.0 a.1.1.0.now a.1.1.1.0.now e.1.1.1.0.now) told r)
contradictions κs a = (tt, λ r e p. p)

pub correct : (κs : Lfts 4) (a : Dens κs correct_kinds.ps) → correct_says.Pre κs a
    × ((r : Told) (e : Dens κs correct_kinds.ps) → correct_says.Post κs a r e
    → Hands (Correction a.0 a.1.0 a.1.1.0 a.1.1.1.0.now a.1.1.1.1.0.now
    a.1.1.1.1.1.0.now a.1.1.1.1.1.1.0 a.1.1.1.1.1.1.1.0.now e.1.1.1.1.0.now
    e.1.1.1.1.1.0.now) told r)
correct κs a = (tt, λ r e p. p)

pub version : (κs : Lfts 0) (a : Dens κs version_kinds.ps) → version_says.Pre κs a
    × ((r : ℕ) (e : Dens κs version_kinds.ps) → version_says.Post κs a r e → r ≡ 262400)
version κs a = (tt, λ r e p. p)

pub old_rules_rule : (κs : Lfts 0) (a : Dens κs old_rules_kinds.ps) → old_rules_says.Pre κs a
    × ((r : Rules) (e : Dens κs old_rules_kinds.ps) → old_rules_says.Post κs a r e → r ≡ old_rules_lem)
old_rules_rule κs a = (tt, λ r e p. p)

pub empty_queue : (κs : Lfts 0) (a : Dens κs empty_queue_kinds.ps) → empty_queue_says.Pre κs a
    × ((r : Queue) (e : Dens κs empty_queue_kinds.ps) → empty_queue_says.Post κs a r e
    → (r.kept ≡ 0) × (r.states ≡ replicate 512 0) × (r.times ≡ replicate 16 0))
empty_queue κs a = (tt, λ r e p. p)

pub push : (κs : Lfts 2) (a : Dens κs push_kinds.ps) → push_says.Pre κs a
    × ((r : Pushed) (e : Dens κs push_kinds.ps) → push_says.Post κs a r e
    → Hands (Pushes a.0 a.1.0 a.1.1.0.now (queue_of_lem a.1.1.1.0) a.1.1.1.1.0
    a.1.1.1.1.1.0.now) told_push r)
push κs a = (tt, λ r e p. p)
