-- What a function of include/dachsmond.h ensures is what the function of `dachsmond` of the same name ensures, of its
-- arguments at entry (a), its result (r) and its arguments at exit (e); and it requires nothing. So what shut_out says
-- of that one (AttachedForC, AttachedListsForC) holds of what C calls.
-- Here: texts, files, rows, matching, a correction, a push. The others stand in ExportedLists.
use contract.Lifetimes.{Lfts}
use borrow.Fn.Kinds.{Dens}
use Rattle.alf.specs.declared.Rules.{Rules}
use Rattle.telling.specs.declared.Told.{Told}
use Rattle.telling.specs.declared.Expression.{Expression}
use Rattle.telling.specs.declared.Trace.{Trace}
use Rattle.telling.specs.declared.Changed.{Changed}
use Rattle.telling.specs.declared.Answered.{Answered}
use Rattle.telling.specs.declared.Matched.{Matched}
use Rattle.telling.specs.declared.Counted.{Counted}
use Rattle.telling.specs.declared.Queue.{Queue}
use Rattle.telling.specs.declared.Pushed.{Pushed}
use Prim.Native.Nat.{ℕ}
use Rattle.dachsmond.proofs.texts.dachsmond_check_names.Reads as check_names_says
use Rattle.dachsmond_c.proofs.texts.dachsmond_check_names.Reads as check_names_exported
use Rattle.dachsmond_c.proofs.texts.dachsmond_check_names.Kinds as check_names_kinds
use Rattle.dachsmond.proofs.texts.dachsmond_read_expression.Reads as read_expression_says
use Rattle.dachsmond_c.proofs.texts.dachsmond_read_expression.Reads as read_expression_exported
use Rattle.dachsmond_c.proofs.texts.dachsmond_read_expression.Kinds as read_expression_kinds
use Rattle.dachsmond.proofs.texts.dachsmond_write_expression.Reads as write_expression_says
use Rattle.dachsmond_c.proofs.texts.dachsmond_write_expression.Reads as write_expression_exported
use Rattle.dachsmond_c.proofs.texts.dachsmond_write_expression.Kinds as write_expression_kinds
use Rattle.dachsmond.proofs.files.dachsmond_read_trace.Reads as read_trace_says
use Rattle.dachsmond_c.proofs.files.dachsmond_read_trace.Reads as read_trace_exported
use Rattle.dachsmond_c.proofs.files.dachsmond_read_trace.Kinds as read_trace_kinds
use Rattle.dachsmond.proofs.files.dachsmond_write_trace.Reads as write_trace_says
use Rattle.dachsmond_c.proofs.files.dachsmond_write_trace.Reads as write_trace_exported
use Rattle.dachsmond_c.proofs.files.dachsmond_write_trace.Kinds as write_trace_kinds
use Rattle.dachsmond.proofs.rows.dachsmond_changes_at.Reads as changes_at_says
use Rattle.dachsmond_c.proofs.rows.dachsmond_changes_at.Reads as changes_at_exported
use Rattle.dachsmond_c.proofs.rows.dachsmond_changes_at.Kinds as changes_at_kinds
use Rattle.dachsmond.proofs.written.dachsmond_row_state.Reads as row_state_says
use Rattle.dachsmond_c.proofs.written.dachsmond_row_state.Reads as row_state_exported
use Rattle.dachsmond_c.proofs.written.dachsmond_row_state.Kinds as row_state_kinds
use Rattle.dachsmond.proofs.written.dachsmond_row_value.Reads as row_value_says
use Rattle.dachsmond_c.proofs.written.dachsmond_row_value.Reads as row_value_exported
use Rattle.dachsmond_c.proofs.written.dachsmond_row_value.Kinds as row_value_kinds
use Rattle.dachsmond.proofs.written.dachsmond_values.Reads as values_says
use Rattle.dachsmond_c.proofs.written.dachsmond_values.Reads as values_exported
use Rattle.dachsmond_c.proofs.written.dachsmond_values.Kinds as values_kinds
use Rattle.dachsmond.proofs.written.dachsmond_row_answer.Reads as row_answer_says
use Rattle.dachsmond_c.proofs.written.dachsmond_row_answer.Reads as row_answer_exported
use Rattle.dachsmond_c.proofs.written.dachsmond_row_answer.Kinds as row_answer_kinds
use Rattle.dachsmond.proofs.written.dachsmond_window_answer.Reads as window_answer_says
use Rattle.dachsmond_c.proofs.written.dachsmond_window_answer.Reads as window_answer_exported
use Rattle.dachsmond_c.proofs.written.dachsmond_window_answer.Kinds as window_answer_kinds
use Rattle.dachsmond.proofs.matching.dachsmond_match_row.Reads as match_row_says
use Rattle.dachsmond_c.proofs.matching.dachsmond_match_row.Reads as match_row_exported
use Rattle.dachsmond_c.proofs.matching.dachsmond_match_row.Kinds as match_row_kinds
use Rattle.dachsmond.proofs.matching.dachsmond_match_all.Reads as match_all_says
use Rattle.dachsmond_c.proofs.matching.dachsmond_match_all.Reads as match_all_exported
use Rattle.dachsmond_c.proofs.matching.dachsmond_match_all.Kinds as match_all_kinds
use Rattle.dachsmond.proofs.matching.dachsmond_totals.Reads as totals_says
use Rattle.dachsmond_c.proofs.matching.dachsmond_totals.Reads as totals_exported
use Rattle.dachsmond_c.proofs.matching.dachsmond_totals.Kinds as totals_kinds
use Rattle.dachsmond.proofs.matching.dachsmond_rewrite.Reads as rewrite_says
use Rattle.dachsmond_c.proofs.matching.dachsmond_rewrite.Reads as rewrite_exported
use Rattle.dachsmond_c.proofs.matching.dachsmond_rewrite.Kinds as rewrite_kinds
use Rattle.dachsmond.proofs.matching.dachsmond_contradictions.Reads as contradictions_says
use Rattle.dachsmond_c.proofs.matching.dachsmond_contradictions.Reads as contradictions_exported
use Rattle.dachsmond_c.proofs.matching.dachsmond_contradictions.Kinds as contradictions_kinds
use Rattle.dachsmond.proofs.changing.dachsmond_correct.Reads as correct_says
use Rattle.dachsmond_c.proofs.changing.dachsmond_correct.Reads as correct_exported
use Rattle.dachsmond_c.proofs.changing.dachsmond_correct.Kinds as correct_kinds
use Rattle.dachsmond.proofs.versions.dachsmond_version.Reads as version_says
use Rattle.dachsmond_c.proofs.versions.dachsmond_version.Reads as version_exported
use Rattle.dachsmond_c.proofs.versions.dachsmond_version.Kinds as version_kinds
use Rattle.dachsmond.proofs.rules.dachsmond_old_rules.Reads as old_rules_says
use Rattle.dachsmond_c.proofs.rules.dachsmond_old_rules.Reads as old_rules_exported
use Rattle.dachsmond_c.proofs.rules.dachsmond_old_rules.Kinds as old_rules_kinds
use Rattle.dachsmond.proofs.changing.dachsmond_empty_queue.Reads as empty_queue_says
use Rattle.dachsmond_c.proofs.changing.dachsmond_empty_queue.Reads as empty_queue_exported
use Rattle.dachsmond_c.proofs.changing.dachsmond_empty_queue.Kinds as empty_queue_kinds
use Rattle.dachsmond.proofs.changing.dachsmond_push.Reads as push_says
use Rattle.dachsmond_c.proofs.changing.dachsmond_push.Reads as push_exported
use Rattle.dachsmond_c.proofs.changing.dachsmond_push.Kinds as push_kinds

pub check_names_lem : (κs : Lfts 1) (a : Dens κs check_names_kinds.ps) → check_names_exported.Pre κs a
    × ((r : Told) (e : Dens κs check_names_kinds.ps) → check_names_exported.Post κs a r e
    → check_names_says.Post κs a r e)
check_names_lem κs a = (tt, λ r e p. p)

pub read_expression_lem : (κs : Lfts 2) (a : Dens κs read_expression_kinds.ps) → read_expression_exported.Pre κs a
    × ((r : Expression) (e : Dens κs read_expression_kinds.ps) → read_expression_exported.Post κs a r e
    → read_expression_says.Post κs a r e)
read_expression_lem κs a = (tt, λ r e p. p)

pub write_expression_lem : (κs : Lfts 3) (a : Dens κs write_expression_kinds.ps) → write_expression_exported.Pre κs a
    × ((r : Told) (e : Dens κs write_expression_kinds.ps) → write_expression_exported.Post κs a r e
    → write_expression_says.Post κs a r e)
write_expression_lem κs a = (tt, λ r e p. p)

pub read_trace : (κs : Lfts 4) (a : Dens κs read_trace_kinds.ps) → read_trace_exported.Pre κs a
    × ((r : Trace) (e : Dens κs read_trace_kinds.ps) → read_trace_exported.Post κs a r e
    → read_trace_says.Post κs a r e)
read_trace κs a = (tt, λ r e p. p)

pub write_trace : (κs : Lfts 4) (a : Dens κs write_trace_kinds.ps) → write_trace_exported.Pre κs a
    × ((r : Told) (e : Dens κs write_trace_kinds.ps) → write_trace_exported.Post κs a r e
    → write_trace_says.Post κs a r e)
write_trace κs a = (tt, λ r e p. p)

pub changes_at : (κs : Lfts 1) (a : Dens κs changes_at_kinds.ps) → changes_at_exported.Pre κs a
    × ((r : Changed) (e : Dens κs changes_at_kinds.ps) → changes_at_exported.Post κs a r e
    → changes_at_says.Post κs a r e)
changes_at κs a = (tt, λ r e p. p)

pub row_state : (κs : Lfts 2) (a : Dens κs row_state_kinds.ps) → row_state_exported.Pre κs a
    × ((r : Told) (e : Dens κs row_state_kinds.ps) → row_state_exported.Post κs a r e → row_state_says.Post κs a r e)
row_state κs a = (tt, λ r e p. p)

pub row_value : (κs : Lfts 2) (a : Dens κs row_value_kinds.ps) → row_value_exported.Pre κs a
    × ((r : Told) (e : Dens κs row_value_kinds.ps) → row_value_exported.Post κs a r e → row_value_says.Post κs a r e)
row_value κs a = (tt, λ r e p. p)

pub values : (κs : Lfts 3) (a : Dens κs values_kinds.ps) → values_exported.Pre κs a
    × ((r : Told) (e : Dens κs values_kinds.ps) → values_exported.Post κs a r e → values_says.Post κs a r e)
values κs a = (tt, λ r e p. p)

pub row_answer_lem : (κs : Lfts 2) (a : Dens κs row_answer_kinds.ps) → row_answer_exported.Pre κs a
    × ((r : Answered) (e : Dens κs row_answer_kinds.ps) → row_answer_exported.Post κs a r e
    → row_answer_says.Post κs a r e)
row_answer_lem κs a = (tt, λ r e p. p)

pub window_answer : (κs : Lfts 2) (a : Dens κs window_answer_kinds.ps) → window_answer_exported.Pre κs a
    × ((r : Answered) (e : Dens κs window_answer_kinds.ps) → window_answer_exported.Post κs a r e
    → window_answer_says.Post κs a r e)
window_answer κs a = (tt, λ r e p. p)

pub match_row_lem : (κs : Lfts 3) (a : Dens κs match_row_kinds.ps) → match_row_exported.Pre κs a
    × ((r : Matched) (e : Dens κs match_row_kinds.ps) → match_row_exported.Post κs a r e → match_row_says.Post κs a r e)
match_row_lem κs a = (tt, λ r e p. p)

pub match_all : (κs : Lfts 7) (a : Dens κs match_all_kinds.ps) → match_all_exported.Pre κs a
    × ((r : Told) (e : Dens κs match_all_kinds.ps) → match_all_exported.Post κs a r e → match_all_says.Post κs a r e)
match_all κs a = (tt, λ r e p. p)

pub totals : (κs : Lfts 2) (a : Dens κs totals_kinds.ps) → totals_exported.Pre κs a
    × ((r : Counted) (e : Dens κs totals_kinds.ps) → totals_exported.Post κs a r e → totals_says.Post κs a r e)
totals κs a = (tt, λ r e p. p)

pub rewrite : (κs : Lfts 5) (a : Dens κs rewrite_kinds.ps) → rewrite_exported.Pre κs a
    × ((r : Told) (e : Dens κs rewrite_kinds.ps) → rewrite_exported.Post κs a r e → rewrite_says.Post κs a r e)
rewrite κs a = (tt, λ r e p. p)

pub contradictions : (κs : Lfts 2) (a : Dens κs contradictions_kinds.ps) → contradictions_exported.Pre κs a
    × ((r : Told) (e : Dens κs contradictions_kinds.ps) → contradictions_exported.Post κs a r e
    → contradictions_says.Post κs a r e)
contradictions κs a = (tt, λ r e p. p)

pub correct : (κs : Lfts 4) (a : Dens κs correct_kinds.ps) → correct_exported.Pre κs a
    × ((r : Told) (e : Dens κs correct_kinds.ps) → correct_exported.Post κs a r e → correct_says.Post κs a r e)
correct κs a = (tt, λ r e p. p)

pub version : (κs : Lfts 0) (a : Dens κs version_kinds.ps) → version_exported.Pre κs a
    × ((r : ℕ) (e : Dens κs version_kinds.ps) → version_exported.Post κs a r e → version_says.Post κs a r e)
version κs a = (tt, λ r e p. p)

pub old_rules_rule : (κs : Lfts 0) (a : Dens κs old_rules_kinds.ps) → old_rules_exported.Pre κs a
    × ((r : Rules) (e : Dens κs old_rules_kinds.ps) → old_rules_exported.Post κs a r e → old_rules_says.Post κs a r e)
old_rules_rule κs a = (tt, λ r e p. p)

pub empty_queue : (κs : Lfts 0) (a : Dens κs empty_queue_kinds.ps) → empty_queue_exported.Pre κs a
    × ((r : Queue) (e : Dens κs empty_queue_kinds.ps) → empty_queue_exported.Post κs a r e
    → empty_queue_says.Post κs a r e)
empty_queue κs a = (tt, λ r e p. p)

pub push : (κs : Lfts 2) (a : Dens κs push_kinds.ps) → push_exported.Pre κs a
    × ((r : Pushed) (e : Dens κs push_kinds.ps) → push_exported.Post κs a r e → push_says.Post κs a r e)
push κs a = (tt, λ r e p. p)
