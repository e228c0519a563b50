-- `splitting::behind` meets its contract.
use Rattle.step_tests.proofs.Splits.{behind_empty, behind_own}
use Rattle.step_tests.proofs.splitting.behind.Goals as goal

pub returns-then-j-empty : goal.returns-then-j-empty
returns-then-j-empty c = behind_empty _ _ _ c.if-j-empty.true

pub returns : goal.returns
returns c = behind_own _ _ _ c.if-j-empty.false
