-- `timed::judge_timed_row` meets its contract: the first refusal is handed on.
use Rattle.std.proofs.lemmas.Result.{err_from_is_err_and}
use Rattle.judging.proofs.TimedChecks.{timed_row_refused, timed_row_19}
use Rattle.judging.proofs.timed.judge_timed_row.Goals as goal

pub returns-in_err-judge_timed : goal.returns-in_err-judge_timed
returns-in_err-judge_timed c =
    let p = err_from_is_err_and c.from_residual.result c.from_residual.ensures.1 in
    rw (p.1, p.2) (timed_row_refused c.judge_timed.ensures c.in_err-judge_timed.was)

pub returns : goal.returns
returns c = timed_row_19 c.judge_timed.ensures c.in_ok-judge_timed.was c.judge_place.ensures
