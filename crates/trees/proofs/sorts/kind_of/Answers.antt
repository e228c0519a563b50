-- `trees::sorts::kind_of` meets its contract.
use Rattle.trees.proofs.Trees.{whole_more, whole_some, whole_none}
use Rattle.trees.proofs.sorts.kind_of.Goals as goal

pub returns-in_err-whole : goal.returns-in_err-whole
returns-in_err-whole c = rw c.from_residual.ensures (whole_none _ _ c.in_err-whole.ensures)

pub returns-then-whole-ne0 : goal.returns-then-whole-ne0
returns-then-whole-ne0 c = whole_more _ _ c.in_ok-whole.ensures c.if-whole-ne0.true

pub returns : goal.returns
returns c = whole_some _ _ c.in_ok-whole.ensures c.if-whole-ne0.false
