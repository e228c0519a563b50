-- `pushing::judge_push` meets its contract: the first refusal is handed on.
use Rattle.std.proofs.lemmas.Result.{err_from_is_err_and}
use Rattle.queue_calls.proofs.QueuesKept.{push_refused, push_13}
use Rattle.queue_calls.proofs.pushing.judge_push.Goals as goal

pub returns-in_err-judge : goal.returns-in_err-judge
returns-in_err-judge c =
    let p = err_from_is_err_and c.from_residual.result c.from_residual.ensures.1 in
    rw (p.1, p.2) (push_refused c.judge.ensures c.in_err-judge.was)

pub returns : goal.returns
returns c = push_13 c.judge.ensures c.in_ok-judge.was c.judge_time.ensures
