-- The contracts that Demand1 and this crate speak of are those of the functions: what a function's own `ensures` says
-- (`Post`, as the check reads it from src/) is the relation, of its arguments at entry (a), its result (r) and its
-- arguments at exit (e). So what a relation does not allow, the function does not do. And its `requires` (`Pre`) asks
-- nothing: it holds of any arguments.
-- Each public call stands here, and in AttachedLists, under its name in Demand1; its function for C in AttachedForC.
use Rattle.std.specs.Prelude.{Result}
use Prim.Native.Nat.{◌/◌}
use mathlib.Core.Path.{◌≡◌}
use lib.ListN.{length}
use contract.Lifetimes.{Lfts}
use borrow.Fn.Kinds.{Dens}
use Rattle.basics.specs.Refusing.{Outcome}
use Rattle.alf.specs.Refusals.{Comes}
use Rattle.names.specs.Check.{names_order}
use Rattle.basics.specs.declared.Refusal.{Refusal}
use Rattle.reader.specs.declared.Read.{Read}
use Rattle.reader.specs.Reading.{ReadsText}
use Rattle.writer.specs.Writing as writing
use Rattle.trace_reader.specs.Reading.{Reading}
use Rattle.trace_reader.specs.Reading.{Reads}
use Rattle.trace_writer.specs.Writing as trace_writing
use Rattle.changes.specs.Call.{RowChanges}
use Rattle.changes.specs.Call as changes
use Rattle.rewriting_calls.specs.Calls.{Rewrites}
use Rattle.contradictions.specs.Calls.{Contradicts}
use Rattle.row_calls.specs.Written.{Answering}
use Rattle.matching_calls.specs.Matching.{Matching}
use Rattle.matching_calls.specs.Matching.{Counting}
use Rattle.queue_calls.specs.declared.pushing.Pushing.{Pushing}
use Rattle.row_calls.specs.Written.{RowState, RowValue, AllValues, RowAnswer}
use Rattle.row_calls.specs.Windows.{WindowAnswer}
use Rattle.matching_calls.specs.Matching.{RowMatch, AllMatched, RowTotals}
use Rattle.update_calls.specs.Correcting.{Correction}
use Rattle.queue_calls.specs.Pushing.{Push}
use Rattle.names.proofs.check_names.Reads as check_names_says
use Rattle.names.proofs.check_names.Kinds as check_names_kinds
use Rattle.reader.proofs.read_expression.Reads as read_expression_says
use Rattle.reader.proofs.read_expression.Kinds as read_expression_kinds
use Rattle.writer.proofs.write_expression.Reads as write_expression_says
use Rattle.writer.proofs.write_expression.Kinds as write_expression_kinds
use Rattle.trace_reader.proofs.read.read_trace.Reads as read_trace_says
use Rattle.trace_reader.proofs.read.read_trace.Kinds as read_trace_kinds
use Rattle.trace_writer.proofs.write.write_trace.Reads as write_trace_says
use Rattle.trace_writer.proofs.write.write_trace.Kinds as write_trace_kinds
use Rattle.changes.proofs.changes_at.Reads as changes_at_says
use Rattle.changes.proofs.changes_at.Kinds as changes_at_kinds
use Rattle.rewriting_calls.proofs.rewrite.Reads as rewrite_says
use Rattle.rewriting_calls.proofs.rewrite.Kinds as rewrite_kinds
use Rattle.contradictions.proofs.reports.contradictions.Reads as contradictions_says
use Rattle.contradictions.proofs.reports.contradictions.Kinds as contradictions_kinds
use Rattle.row_calls.proofs.written.row_state.Reads as row_state_says
use Rattle.row_calls.proofs.written.row_state.Kinds as row_state_kinds
use Rattle.row_calls.proofs.written.row_value.Reads as row_value_says
use Rattle.row_calls.proofs.written.row_value.Kinds as row_value_kinds
use Rattle.row_calls.proofs.written.values.Reads as values_says
use Rattle.row_calls.proofs.written.values.Kinds as values_kinds
use Rattle.row_calls.proofs.written.row_answer.Reads as row_answer_says
use Rattle.row_calls.proofs.written.row_answer.Kinds as row_answer_kinds
use Rattle.row_calls.proofs.windows.window_answer.Reads as window_answer_says
use Rattle.row_calls.proofs.windows.window_answer.Kinds as window_answer_kinds
use Rattle.matching_calls.proofs.matching.match_row.Reads as match_row_says
use Rattle.matching_calls.proofs.matching.match_row.Kinds as match_row_kinds
use Rattle.matching_calls.proofs.matching.match_all.Reads as match_all_says
use Rattle.matching_calls.proofs.matching.match_all.Kinds as match_all_kinds
use Rattle.matching_calls.proofs.matching.totals.Reads as totals_says
use Rattle.matching_calls.proofs.matching.totals.Kinds as totals_kinds
use Rattle.update_calls.proofs.correcting.correct.Reads as correct_says
use Rattle.update_calls.proofs.correcting.correct.Kinds as correct_kinds
use Rattle.queue_calls.proofs.pushing.push.Reads as push_says
use Rattle.queue_calls.proofs.pushing.push.Kinds as push_kinds

pub check_names_lem : (κs : Lfts 1) (a : Dens κs check_names_kinds.ps) → check_names_says.Pre κs a
    × ((r : Outcome) (e : Dens κs check_names_kinds.ps) → check_names_says.Post κs a r e
    → Comes (names_order a.0.now) (λ k. k ≡ length a.0.now / 32) r)
check_names_lem κs a = (tt, λ r e p. p)

pub read_expression_lem : (κs : Lfts 2) (a : Dens κs read_expression_kinds.ps) → read_expression_says.Pre κs a
    × ((r : Result Read Refusal) (e : Dens κs read_expression_kinds.ps) → read_expression_says.Post κs a r e
    → ReadsText a.0 a.1.0.now a.1.1.0.now a.1.1.1.0 r)
read_expression_lem κs a = (tt, λ r e p. p)

pub write_expression_lem : (κs : Lfts 3) (a : Dens κs write_expression_kinds.ps) → write_expression_says.Pre κs a
    × ((r : Outcome) (e : Dens κs write_expression_kinds.ps) → write_expression_says.Post κs a r e
    → writing.Writes a.0.now a.1.0.now a.1.1.0 a.1.1.1.0.now e.1.1.1.0.now r)
write_expression_lem κs a = (tt, λ r e p. p)

pub read_trace : (κs : Lfts 4) (a : Dens κs read_trace_kinds.ps) → read_trace_says.Pre κs a
    × ((r : Reading) (e : Dens κs read_trace_kinds.ps) → read_trace_says.Post κs a r e
    → Reads a.0.now a.1.0.now a.1.1.0.now a.1.1.1.0.now e.1.0.now e.1.1.0.now
    e.1.1.1.0.now r)
read_trace κs a = (tt, λ r e p. p)

pub write_trace : (κs : Lfts 4) (a : Dens κs write_trace_kinds.ps) → write_trace_says.Pre κs a
    × ((r : Outcome) (e : Dens κs write_trace_kinds.ps) → write_trace_says.Post κs a r e
    → trace_writing.Writes a.0.now a.1.0.now a.1.1.0.now a.1.1.1.0 a.1.1.1.1.0.now
    e.1.1.1.1.0.now r)
write_trace κs a = (tt, λ r e p. p)

pub changes_at : (κs : Lfts 1) (a : Dens κs changes_at_kinds.ps) → changes_at_says.Pre κs a
    × ((r : RowChanges) (e : Dens κs changes_at_kinds.ps) → changes_at_says.Post κs a r e
    → changes.RowChanged a.0 a.1.0 a.1.1.0.now a.1.1.1.0.0 r)
changes_at κs a = (tt, λ r e p. p)

pub rewrite : (κs : Lfts 5) (a : Dens κs rewrite_kinds.ps) → rewrite_says.Pre κs a
    × ((r : Outcome) (e : Dens κs rewrite_kinds.ps) → rewrite_says.Post κs a r e
    → Rewrites a.0 a.1.0 a.1.1.0.now a.1.1.1.0.now a.1.1.1.1.0.now
    a.1.1.1.1.1.0.now a.1.1.1.1.1.1.0.now e.1.1.1.0.now e.1.1.1.1.0.now
    e.1.1.1.1.1.0.now e.1.1.1.1.1.1.0.now r)
rewrite κs a = (tt, λ r e p. p)

pub contradictions : (κs : Lfts 2) (a : Dens κs contradictions_kinds.ps) → contradictions_says.Pre κs a
    × ((r : Outcome) (e : Dens κs contradictions_kinds.ps) → contradictions_says.Post κs a r e
    → Contradicts a.0 a.1.0 a.1.1.0.now a.1.1.1.0.now e.1.1.1.0.now r)
contradictions κs a = (tt, λ r e p. p)

pub row_state : (κs : Lfts 2) (a : Dens κs row_state_kinds.ps) → row_state_says.Pre κs a
    × ((r : Outcome) (e : Dens κs row_state_kinds.ps) → row_state_says.Post κs a r e
    → RowState a.0 a.1.0 a.1.1.0 a.1.1.1.0.now a.1.1.1.1.0.now
    a.1.1.1.1.1.0.0 r)
row_state κs a = (tt, λ r e p. p)

pub row_value : (κs : Lfts 2) (a : Dens κs row_value_kinds.ps) → row_value_says.Pre κs a
    × ((r : Outcome) (e : Dens κs row_value_kinds.ps) → row_value_says.Post κs a r e
    → RowValue a.0 a.1.0 a.1.1.0 a.1.1.1.0.now a.1.1.1.1.0.now
    a.1.1.1.1.1.0.0 r)
row_value κs a = (tt, λ r e p. p)

pub values : (κs : Lfts 3) (a : Dens κs values_kinds.ps) → values_says.Pre κs a
    × ((r : Outcome) (e : Dens κs values_kinds.ps) → values_says.Post κs a r e
    → AllValues a.0 a.1.0 a.1.1.0 a.1.1.1.0.now a.1.1.1.1.0.now
    a.1.1.1.1.1.0.now e.1.1.1.1.1.0.now r)
values κs a = (tt, λ r e p. p)

pub row_answer_lem : (κs : Lfts 2) (a : Dens κs row_answer_kinds.ps) → row_answer_says.Pre κs a
    × ((r : Answering) (e : Dens κs row_answer_kinds.ps) → row_answer_says.Post κs a r e
    → RowAnswer a.0 a.1.0 a.1.1.0 a.1.1.1.0.now a.1.1.1.1.0.now
    a.1.1.1.1.1.0.0 r)
row_answer_lem κs a = (tt, λ r e p. p)

pub window_answer : (κs : Lfts 2) (a : Dens κs window_answer_kinds.ps) → window_answer_says.Pre κs a
    × ((r : Answering) (e : Dens κs window_answer_kinds.ps) → window_answer_says.Post κs a r e
    → WindowAnswer a.0 a.1.0 a.1.1.0 a.1.1.1.0.now a.1.1.1.1.0.now
    a.1.1.1.1.1.0.0 a.1.1.1.1.1.1.0.0 r)
window_answer κs a = (tt, λ r e p. p)

pub match_row_lem : (κs : Lfts 3) (a : Dens κs match_row_kinds.ps) → match_row_says.Pre κs a
    × ((r : Matching) (e : Dens κs match_row_kinds.ps) → match_row_says.Post κs a r e
    → RowMatch a.0 a.1.0 a.1.1.0 a.1.1.1.0.now a.1.1.1.1.0.now
    a.1.1.1.1.1.0.now a.1.1.1.1.1.1.0.0 r)
match_row_lem κs a = (tt, λ r e p. p)

pub match_all : (κs : Lfts 7) (a : Dens κs match_all_kinds.ps) → match_all_says.Pre κs a
    × ((r : Outcome) (e : Dens κs match_all_kinds.ps) → match_all_says.Post κs a r e
    → AllMatched a.0 a.1.0 a.1.1.0 a.1.1.1.0.now a.1.1.1.1.0.now
    a.1.1.1.1.1.0.now a.1.1.1.1.1.1.0.now a.1.1.1.1.1.1.1.0.now
    a.1.1.1.1.1.1.1.1.0.now a.1.1.1.1.1.1.1.1.1.0.now
    e.1.1.1.1.1.1.0.now e.1.1.1.1.1.1.1.0.now
    e.1.1.1.1.1.1.1.1.0.now e.1.1.1.1.1.1.1.1.1.0.now r)
match_all κs a = (tt, λ r e p. p)

pub totals : (κs : Lfts 2) (a : Dens κs totals_kinds.ps) → totals_says.Pre κs a
    × ((r : Counting) (e : Dens κs totals_kinds.ps) → totals_says.Post κs a r e
    → RowTotals a.0 a.1.0 a.1.1.0 a.1.1.1.0.now a.1.1.1.1.0.now r)
totals κs a = (tt, λ r e p. p)

pub correct : (κs : Lfts 4) (a : Dens κs correct_kinds.ps) → correct_says.Pre κs a
    × ((r : Outcome) (e : Dens κs correct_kinds.ps) → correct_says.Post κs a r e
    → Correction a.0 a.1.0 a.1.1.0 a.1.1.1.0.now a.1.1.1.1.0.now
    a.1.1.1.1.1.0.now a.1.1.1.1.1.1.0.0 a.1.1.1.1.1.1.1.0.now e.1.1.1.1.0.now e.1.1.1.1.1.0.now r)
correct κs a = (tt, λ r e p. p)

pub push : (κs : Lfts 2) (a : Dens κs push_kinds.ps) → push_says.Pre κs a
    × ((r : Pushing) (e : Dens κs push_kinds.ps) → push_says.Post κs a r e
    → Push a.0 a.1.0 a.1.1.0.now a.1.1.1.0 a.1.1.1.1.0.0 a.1.1.1.1.1.0.now
    r.told r.queue)
push κs a = (tt, λ r e p. p)
