use mathlib.Core.Path.{refl, ◌∙◌}
use native.Mathlib.Omega.{arith}
use Rattle.basics.proofs.Stores.{writing_first, writing_length}
use Rattle.basics.proofs.Listed.{ruling_next_front}
use Rattle.columns.proofs.Passing.{front_ahead, over_end}
use Rattle.columns.proofs.passes.join.Goals as goal

pub loop-i-init : goal.loop-i-init
loop-i-init c = writing_first

pub bounds-best-i : goal.bounds-best-i
bounds-best-i c = omega (arith, writing_length c.loop-i.invariant)

pub bounds-best-i-in-loop-i : goal.bounds-best-i-in-loop-i
bounds-best-i-in-loop-i c = omega (arith, writing_length c.loop-i.invariant)

pub loop-i-preserved : goal.loop-i-preserved
loop-i-preserved c =
    ruling_next_front _ c.loop-i.invariant c.loop-i-test.true
    (c.max.ensures ∙ rw (front_ahead c.loop-i.invariant) refl)

pub shape_of-best : goal.shape_of-best
shape_of-best c = writing_length c.loop-i.invariant

pub returns : goal.returns
returns c = over_end c.loop-i.invariant c.loop-i-test.false
