-- `operators::resolve` meets its contract.
use Rattle.evaluator.proofs.Operating.{branches_differ, branches_same, branches_old}
use Rattle.evaluator.proofs.operators.resolve.Goals as goal

pub returns-then-x-y : goal.returns-then-x-y
returns-then-x-y c = branches_differ _ _ _ c.if-x-y.true

pub returns-then-rules : goal.returns-then-rules
returns-then-rules c = branches_same _ _ _ c.if-x-y.false c.if-rules.true c.requires

pub returns-else-rules : goal.returns-else-rules
returns-else-rules c = branches_old _ _ _ c.if-x-y.false c.if-rules.false
