use mathlib.Core.Path.{refl}
use native.Mathlib.Omega.{arith}
use Rattle.matcher.proofs.Matching.{stepping_last}
use Rattle.matcher.proofs.Asked.{longer_no, stepping_start, step_fits, step_asked, stepping_next}
use Rattle.matcher.proofs.answers.alternative_at.Goals as goal

pub returns-then-row-n : goal.returns-then-row-n
returns-then-row-n c = longer_no c.requires _ c.if-row-n.true

pub loop-j-init : goal.loop-j-init
loop-j-init c = stepping_start c.requires _

pub step_at-requires : goal.step_at-requires
step_at-requires c = step_asked c.requires _ c.loop-j.invariant c.loop-j-test.true c.if-row-n.false

pub overflow_add-at : goal.overflow_add-at
overflow_add-at c =
    let l = step_fits c.requires _ c.loop-j.invariant c.loop-j-test.true in
    omega (arith, c.well_formed)

pub loop-j-preserved : goal.loop-j-preserved
loop-j-preserved c =
    rw c.min-least.ensures
    (stepping_next c.requires _ c.loop-j.invariant c.loop-j-test.true _ c.step_at.ensures)

pub returns : goal.returns
returns c = stepping_last c.loop-j.invariant c.loop-j-test.false c.requires.there c.if-row-n.false refl
