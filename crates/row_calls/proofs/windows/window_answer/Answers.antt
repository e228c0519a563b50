-- `windows::window_answer` meets its contract.
use Rattle.std.proofs.lemmas.Result.{err_from_is_err_and}
use Rattle.row_calls.proofs.OnWindows.{window_asked, window_refused, window_told}
use Rattle.row_calls.proofs.windows.window_answer.Goals as goal

pub answer_tree-requires : goal.answer_tree-requires
answer_tree-requires c = window_asked _ _ c.max-last.ensures c.check_row.ensures c.in_ok-check_row.was

pub returns-in_err-check_row : goal.returns-in_err-check_row
returns-in_err-check_row c =
    let p = err_from_is_err_and c.from_residual.result c.from_residual.ensures.1 in
    rw (p.1, p.2)
    (window_refused _ _ c.max-last.ensures c.check_row.ensures c.in_err-check_row.was)

pub returns : goal.returns
returns c =
    window_told _ _ c.max-last.ensures c.check_row.ensures c.in_ok-check_row.was
    c.answer_tree.ensures
