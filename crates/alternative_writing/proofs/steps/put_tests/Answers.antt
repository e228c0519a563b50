use Rattle.basics.proofs.PartByPart.{put_length}
use Rattle.alternative_writing.proofs.StepWalks.{step_first, step_asked, step_next, step_last}
use Rattle.alternative_writing.proofs.steps.put_tests.Goals as goal

pub loop-i-init : goal.loop-i-init
loop-i-init c = step_first c.requires

pub put_test-p-requires : goal.put_test-p-requires
put_test-p-requires c = step_asked c.requires c.loop-i.invariant c.loop-i-test.true

pub loop-i-preserved : goal.loop-i-preserved
loop-i-preserved c = step_next c.requires c.loop-i.invariant c.loop-i-test.true c.put_test-p.ensures

pub shape_of-out : goal.shape_of-out
shape_of-out c = put_length c.loop-i.invariant.laying.put

pub returns : goal.returns
returns c = step_last c.requires c.loop-i.invariant c.loop-i-test.false
