use mathlib.Core.Path.{refl, ◌∙◌}
use native.Mathlib.Omega.{arith}
use Rattle.basics.proofs.Stores.{writing_first, writing_length}
use Rattle.basics.proofs.Listed.{ruling_next_front}
use Rattle.columns.proofs.Passing.{front_ahead, over_end}
use Rattle.columns.proofs.passes.meet.Goals as goal

pub loop-i-init : goal.loop-i-init
loop-i-init c = writing_first

pub bounds-acc-i : goal.bounds-acc-i
bounds-acc-i c = omega (arith, writing_length c.loop-i.invariant)

pub bounds-acc-i-in-loop-i : goal.bounds-acc-i-in-loop-i
bounds-acc-i-in-loop-i c = omega (arith, writing_length c.loop-i.invariant)

pub loop-i-preserved : goal.loop-i-preserved
loop-i-preserved c =
    ruling_next_front _ c.loop-i.invariant c.loop-i-test.true
    (c.min.ensures ∙ rw (front_ahead c.loop-i.invariant) refl)

pub shape_of-acc : goal.shape_of-acc
shape_of-acc c = writing_length c.loop-i.invariant

pub returns : goal.returns
returns c = over_end c.loop-i.invariant c.loop-i-test.false
