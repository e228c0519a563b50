-- `listed::push` meets its contract.
use Rattle.listed_calls.proofs.QueueCalls.{push_asked, push_refused, push_told}
use Rattle.listed_calls.proofs.listed.push.Goals as goal

pub push-requires : goal.push-requires
push-requires c =
    push_asked c.row_fits-fitting.ensures c.queue_good-good.ensures c.judge_push-v.ensures
    c.in-Ok.is

pub returns-in-Err : goal.returns-in-Err
returns-in-Err c =
    push_refused c.row_fits-fitting.ensures c.queue_good-good.ensures c.judge_push-v.ensures
    c.in-Err.is

pub returns-in-Ok : goal.returns-in-Ok
returns-in-Ok c =
    push_told c.row_fits-fitting.ensures c.queue_good-good.ensures c.judge_push-v.ensures
    c.in-Ok.is c.push.ensures c.pushing_of.ensures.0 c.pushing_of.ensures.1
