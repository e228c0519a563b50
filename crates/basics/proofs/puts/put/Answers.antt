use native.Mathlib.Omega.{arith}
use mathlib.Core.Path.{refl}
use Rattle.basics.proofs.Stores.{writing_first, writing_length, writing_next, writing_end}
use Rattle.basics.proofs.puts.put.Goals as goal

pub loop-i-init : goal.loop-i-init
loop-i-init c = writing_first

pub bounds-out-at : goal.bounds-out-at
bounds-out-at c = omega (arith, c.loop-i-test.true, writing_length c.loop-i.invariant)

pub loop-i-preserved : goal.loop-i-preserved
loop-i-preserved c = writing_next c.loop-i.invariant c.loop-i-test.true refl

pub shape_of-out : goal.shape_of-out
shape_of-out c = writing_length c.loop-i.invariant

pub returns : goal.returns
returns c = record { bytes = writing_end c.loop-i.invariant c.loop-i-test.false; next = refl }
