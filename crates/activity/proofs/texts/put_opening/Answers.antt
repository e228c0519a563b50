-- `put_opening` meets its contract.
use Rattle.activity.proofs.WholeText.{none_put, head_fits, head_put}
use Rattle.activity.proofs.texts.put_opening.Goals as goal

pub returns-then-first-ne0 : goal.returns-then-first-ne0
returns-then-first-ne0 c = none_put _ _ c.if-first-ne0.true

pub put_head-requires : goal.put_head-requires
put_head-requires c = head_fits _ _ c.if-first-ne0.false c.requires

pub returns : goal.returns
returns c = head_put _ _ c.if-first-ne0.false c.put_head.ensures
