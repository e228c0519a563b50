use mathlib.Core.Path.{refl}
use native.Mathlib.Omega.{arith}
use Rattle.basics.proofs.Stores.{writing_first, writing_length}
use Rattle.basics.proofs.Listed.{ruling_next_front}
use Rattle.columns.proofs.Passing.{front_ahead, over_end, tried_fits}
use Rattle.columns.proofs.passes.try_open.Goals as goal

pub loop-i-init : goal.loop-i-init
loop-i-init c = writing_first

pub bounds-tries-i : goal.bounds-tries-i
bounds-tries-i c = omega (arith, writing_length c.loop-i.invariant)

pub overflow_add-tries : goal.overflow_add-tries
overflow_add-tries c =
    omega (
      arith,
      tried_fits c.loop-i.invariant c.requires c.loop-i-test.true _
          c.«open».ensures,
    )

pub bounds-tries-i-in-loop-i : goal.bounds-tries-i-in-loop-i
bounds-tries-i-in-loop-i c = omega (arith, writing_length c.loop-i.invariant)

pub loop-i-preserved : goal.loop-i-preserved
loop-i-preserved c =
    ruling_next_front _ c.loop-i.invariant c.loop-i-test.true
    (rw (front_ahead c.loop-i.invariant, c.«open».ensures) refl)

pub shape_of-tries : goal.shape_of-tries
shape_of-tries c = writing_length c.loop-i.invariant

pub returns : goal.returns
returns c = over_end c.loop-i.invariant c.loop-i-test.false
