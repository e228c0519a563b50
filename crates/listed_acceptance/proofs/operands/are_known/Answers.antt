use native.Mathlib.Omega.{arith}
use Rattle.basics.specs.Deciding.{Decides}
use Rattle.listed_acceptance.specs.Lists.{Known}
use Rattle.listed_acceptance.proofs.Each.{upto_more, upto_all}
use Rattle.listed_acceptance.proofs.operands.are_known.Goals as goal

pub loop-i-init : goal.loop-i-init
loop-i-init c = (omega arith, λ j h. absurd (omega arith))

pub returns-then-edges-i-gt82 : goal.returns-then-edges-i-gt82
unfolding Decides
returns-then-edges-i-gt82 c = λ h. omega (arith, h c.loop-i.i (omega arith), c.if-edges-i-gt82.true)

pub loop-i-preserved : goal.loop-i-preserved
loop-i-preserved c =
    (omega arith, upto_more Known c.args.edges.now c.loop-i.i c.loop-i.invariant.1 c.if-edges-i-gt82.false)

pub returns : goal.returns
unfolding Decides
returns c =
    upto_all Known c.args.edges.now c.loop-i.i c.loop-i-test.false
    c.loop-i.invariant.1
