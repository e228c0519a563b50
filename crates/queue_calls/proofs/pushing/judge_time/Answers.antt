-- `pushing::judge_time` meets its contract.
use native.Mathlib.Omega.{arith}
use Rattle.queue_calls.proofs.QueuesKept.{first_push, early_refused, above_good}
use Rattle.queue_calls.proofs.pushing.judge_time.Goals as goal

pub returns-then-kept-eq0 : goal.returns-then-kept-eq0
returns-then-kept-eq0 c = first_push c.args.queue _ c.if-kept-eq0.true

pub returns-then-time-last_time : goal.returns-then-time-last_time
returns-then-time-last_time c =
    early_refused c.args.queue _ c.if-kept-eq0.false
    (omega (arith, c.if-time-last_time.true, c.last_time.ensures))
    c.refusal_of.ensures

pub returns : goal.returns
returns c =
    above_good c.args.queue _
    (omega (arith, c.if-time-last_time.false, c.last_time.ensures))
