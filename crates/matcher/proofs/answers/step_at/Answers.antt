use native.Mathlib.Omega.{arith}
use Rattle.matcher.proofs.Matching.{asking_first, asking_last}
use Rattle.matcher.proofs.Asked.{test_asked, asking_next}
use Rattle.matcher.proofs.answers.step_at.Goals as goal

pub loop-i-init : goal.loop-i-init
loop-i-init c = asking_first

pub test_at-requires : goal.test_at-requires
test_at-requires c = test_asked c.requires c.loop-i.i (omega arith)

pub loop-i-preserved : goal.loop-i-preserved
loop-i-preserved c =
    rw c.min-least.ensures
    (asking_next c.requires _ c.loop-i.invariant (omega arith) _
    c.test_at.ensures)

pub returns : goal.returns
returns c = asking_last c.loop-i.invariant c.loop-i-test.false
