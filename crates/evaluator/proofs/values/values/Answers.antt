use native.Mathlib.Omega.{arith}
use Rattle.basics.proofs.Stores.{writing_first, writing_length}
use Rattle.basics.proofs.Listed.{ruling_next_front, ruling_front}
use Rattle.evaluator.proofs.values.values.Goals as goal

pub loop-i-init : goal.loop-i-init
loop-i-init c = writing_first

pub value-requires : goal.value-requires
value-requires c =
    record { ends_boolean = c.requires.ends_boolean; within = c.requires.filling.rows _ (omega arith) }

pub bounds-out-i : goal.bounds-out-i
bounds-out-i c = omega (arith, writing_length c.loop-i.invariant, c.requires.filling.room)

pub loop-i-preserved : goal.loop-i-preserved
loop-i-preserved c = ruling_next_front _ c.loop-i.invariant c.loop-i-test.true c.value.ensures.is

pub shape_of-out : goal.shape_of-out
shape_of-out c = writing_length c.loop-i.invariant

pub returns : goal.returns
returns c = ruling_front _ c.loop-i.invariant c.loop-i-test.false c.requires.filling.room
