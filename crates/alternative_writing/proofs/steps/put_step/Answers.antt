-- `put_step` meets its contract.
use Rattle.basics.specs.Text.{bytes}
use Rattle.alternative_writing.proofs.StepWalks.{tests_asked, empty_countable, step_empty, step_some}
use Rattle.alternative_writing.proofs.steps.put_step.Goals as goal

pub put-requires : goal.put-requires
unfolding bytes
put-requires c = empty_countable c.requires _ c.put_gap-p.ensures

pub returns-then-n-eq0 : goal.returns-then-n-eq0
unfolding bytes
returns-then-n-eq0 c = step_empty c.requires _ c.put_gap-p.ensures c.if-n-eq0.true c.put.ensures

pub put_tests-requires : goal.put_tests-requires
unfolding bytes
put_tests-requires c = tests_asked c.requires _ c.put_gap-p.ensures

pub returns : goal.returns
unfolding bytes
returns c = step_some c.requires _ c.put_gap-p.ensures c.if-n-eq0.false c.put_tests.ensures
