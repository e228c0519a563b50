-- `correcting::judge_correction` meets its contract: the first refusal is handed on.
use Rattle.std.proofs.lemmas.Result.{err_from_is_err_and}
use Rattle.update_calls.proofs.Corrects.{trace_refused, new_refused, new_good}
use Rattle.update_calls.proofs.correcting.judge_correction.Goals as goal

pub returns-in_err-judge : goal.returns-in_err-judge
returns-in_err-judge c =
    let p = err_from_is_err_and c.from_residual.result c.from_residual.ensures.1 in
    rw (p.1, p.2) (trace_refused c.judge.ensures c.in_err-judge.was)

pub returns-in_err-judge_codes : goal.returns-in_err-judge_codes
returns-in_err-judge_codes c =
    let q = c.from_residual-in_err-judge_codes in
    let p = err_from_is_err_and q.result q.ensures.1 in
    rw (p.1, p.2) (new_refused c.judge.ensures c.in_ok-judge.was c.judge_codes.ensures c.in_err-judge_codes.was)

pub returns : goal.returns
returns c =
    new_good c.judge.ensures c.in_ok-judge.was c.judge_codes.ensures c.in_ok-judge_codes.was c.judge_place.ensures
