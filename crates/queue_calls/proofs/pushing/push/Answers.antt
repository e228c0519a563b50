-- `pushing::push` meets its contract.
use Rattle.queue_calls.proofs.Pushes.{push_good, push_refused, push_told}
use Rattle.queue_calls.proofs.pushing.push.Goals as goal

pub push_tree-requires : goal.push_tree-requires
push_tree-requires c =
    push_good c.row_fits-fits.ensures c.queue_good-good.ensures c.judge_push-v.ensures
    c.in-Ok.is

pub returns-in-Err : goal.returns-in-Err
returns-in-Err c =
    push_refused c.row_fits-fits.ensures c.queue_good-good.ensures c.judge_push-v.ensures
    c.in-Err.is

pub returns-in-Ok : goal.returns-in-Ok
returns-in-Ok c =
    push_told c.row_fits-fits.ensures c.queue_good-good.ensures c.judge_push-v.ensures
    c.in-Ok.is c.push_tree.ensures c.pushing_of.ensures.0 c.pushing_of.ensures.1
