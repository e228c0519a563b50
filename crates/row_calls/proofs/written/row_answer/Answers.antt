-- `written::row_answer` meets its contract.
use Rattle.std.proofs.lemmas.Result.{err_from_is_err_and}
use Rattle.row_calls.proofs.AsWritten.{row_there, pattern_there, answer_refused, answer_told}
use Rattle.row_calls.proofs.written.row_answer.Goals as goal

pub row_answer-requires : goal.row_answer-requires
row_answer-requires c =
    let k = c.check_row.ensures in
    let g = c.in_ok-check_row.was in
    record { pattern = pattern_there k g; within = row_there k g }

pub returns-in_err-check_row : goal.returns-in_err-check_row
returns-in_err-check_row c =
    let p = err_from_is_err_and c.from_residual.result c.from_residual.ensures.1 in
    rw (p.1, p.2)
    (answer_refused c.check_row.ensures c.in_err-check_row.was)

pub returns : goal.returns
returns c =
    let k = c.check_row.ensures in
    answer_told k c.in_ok-check_row.was c.row_answer.ensures
