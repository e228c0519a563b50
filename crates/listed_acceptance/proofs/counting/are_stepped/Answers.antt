use native.Mathlib.Omega.{arith}
use Rattle.basics.specs.Deciding.{Decides}
use Rattle.listed_acceptance.specs.Lists.{Stepped}
use Rattle.listed_acceptance.proofs.Each.{upto_more, upto_all}
use Rattle.listed_acceptance.proofs.counting.are_stepped.Goals as goal

pub loop-i-init : goal.loop-i-init
loop-i-init c = (omega arith, λ j h. absurd (omega arith))

pub returns-then-x-eq0 : goal.returns-then-x-eq0
unfolding Decides
returns-then-x-eq0 c = λ h. omega (arith, (h c.loop-i.i (omega arith)).some, c.if-x-eq0.true)

pub returns-then-x-gt16 : goal.returns-then-x-gt16
unfolding Decides
returns-then-x-gt16 c =
    λ h.
    omega (arith, (h c.loop-i.i (omega arith)).few, c.if-x-gt16.true)

pub loop-i-preserved : goal.loop-i-preserved
loop-i-preserved c =
    let steps = c.args.steps.now in (
      omega arith,
      upto_more Stepped steps c.loop-i.i c.loop-i.invariant.1
          (record { some = omega (arith, c.if-x-eq0.false); few = c.if-x-gt16.false }),
    )

pub returns : goal.returns
unfolding Decides
returns c =
    upto_all Stepped c.args.steps.now c.loop-i.i c.loop-i-test.false
    c.loop-i.invariant.1
