use mathlib.Core.Path.{refl}
use native.Mathlib.Nat.{zero-add}
use native.Mathlib.Omega.{arith}
use Rattle.basics.proofs.Stores.{writing_first, writing_length}
use Rattle.basics.proofs.Listed.{ruling_next}
use Rattle.columns.proofs.Passing.{over_end}
use Rattle.columns.proofs.passes.put_tries.Goals as goal

pub loop-i-init : goal.loop-i-init
loop-i-init c = writing_first

pub bounds-tries-i : goal.bounds-tries-i
bounds-tries-i c = omega (arith, c.requires.few)

pub overflow_cast-tried : goal.overflow_cast-tried
overflow_cast-tried c = omega (arith, c.requires.small c.loop-i.i c.loop-i-test.true)

pub overflow_add-tried : goal.overflow_add-tried
overflow_add-tried c = omega (arith, c.requires.other, c.well_formed)

pub offset_bounds-tried-at : goal.offset_bounds-tried-at
offset_bounds-tried-at c = omega (arith, c.requires.other, c.well_formed)

pub bounds-tried-at : goal.bounds-tried-at
bounds-tried-at c = omega (arith, writing_length c.loop-i.invariant, c.requires.other)

pub loop-i-preserved : goal.loop-i-preserved
loop-i-preserved c = ruling_next 0 _ c.loop-i.invariant c.loop-i-test.true (rw zero-add refl)

pub shape_of-tried : goal.shape_of-tried
shape_of-tried c = writing_length c.loop-i.invariant

pub returns : goal.returns
returns c = over_end c.loop-i.invariant c.loop-i-test.false
