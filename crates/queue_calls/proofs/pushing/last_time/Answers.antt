-- `pushing::last_time` meets its contract.
use Rattle.queue_calls.proofs.QueuesKept.{last_none, last_over}
use borrow.Author.Rules.{rules}
use Rattle.queue_calls.proofs.pushing.last_time.Goals as goal

pub returns-then-end-eq0 : goal.returns-then-end-eq0
returns-then-end-eq0 c = last_none c.args.queue c.if-end-eq0.true

pub returns-then-end-gt16 : goal.returns-then-end-gt16
returns-then-end-gt16 c = last_over c.args.queue (search rules) c.if-end-gt16.true
