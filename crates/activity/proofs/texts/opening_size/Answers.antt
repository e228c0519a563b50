-- `opening_size` meets its contract.
use Rattle.activity.proofs.WholeText.{none_sized, opening_sized}
use Rattle.activity.proofs.texts.opening_size.Goals as goal

pub returns-then-first-ne0 : goal.returns-then-first-ne0
returns-then-first-ne0 c = none_sized _ _ c.if-first-ne0.true

pub returns : goal.returns
returns c = opening_sized _ _ c.requires.few c.if-first-ne0.false c.members_size.ensures
