-- `checks::judge_test` meets its contract.
use mathlib.Core.Path.{ap}
use mathlib.Core.Bool.{not}
use Rattle.judging.proofs.Checked.{test_fails, test_passes}
use Rattle.basics.proofs.Deciding.{not_said, said}
use Rattle.judging.proofs.checks.judge_test.Goals as goal

pub returns-then-not-good : goal.returns-then-not-good
returns-then-not-good c = test_fails _ (not_said _ (ap not c.if-not-good.true)) c.refusal_of.ensures

pub returns : goal.returns
returns c = test_passes _ (said _ (ap not c.if-not-good.false))
