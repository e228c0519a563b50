use Rattle.std.proofs.Common.{ap}
use Rattle.std.proofs.Math.Bool.{not}
use Rattle.contradictions.proofs.Allowing.{allowing_first, allowing_no, allowing_next, allowing_end}
use Rattle.contradictions.proofs.Allowing.{test_plain}
use Rattle.contradictions.proofs.possible.step_allows.Goals as goal

pub loop-i-init : goal.loop-i-init
loop-i-init c = allowing_first

pub test_allows-requires : goal.test_allows-requires
test_allows-requires c = test_plain c.requires c.loop-i.invariant c.loop-i-test.true

pub returns-then-not-test_allows : goal.returns-then-not-test_allows
returns-then-not-test_allows c =
    allowing_no c.requires c.loop-i.invariant c.loop-i-test.true
    c.test_allows.ensures (ap not c.if-not-test_allows.true)

pub loop-i-preserved : goal.loop-i-preserved
loop-i-preserved c =
    allowing_next c.requires c.loop-i.invariant c.loop-i-test.true
    c.test_allows.ensures (ap not c.if-not-test_allows.false)

pub returns : goal.returns
returns c = allowing_end c.requires c.loop-i.invariant c.loop-i-test.false
