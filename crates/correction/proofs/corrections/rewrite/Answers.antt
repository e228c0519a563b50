use native.Mathlib.Omega.{arith}
use Rattle.matcher.proofs.Filling.{row_asked}
use Rattle.basics.proofs.Stores.{writing_first, writing_length}
use Rattle.basics.proofs.Listed.{ruling_next, ruling_placed}
use Rattle.correction.proofs.corrections.rewrite.Goals as goal

pub loop-i-init : goal.loop-i-init
loop-i-init c = writing_first

pub overflow_add-r : goal.overflow_add-r
overflow_add-r c = omega (arith, c.requires.there, c.requires.asked.rows.few)

pub number_at-requires : goal.number_at-requires
number_at-requires c = row_asked _ c.requires.asked (omega (arith, c.requires.there))

pub overflow_add-answers : goal.overflow_add-answers
overflow_add-answers c = omega (arith, c.requires.there, c.requires.asked.rows.few)

pub bounds-answers-r : goal.bounds-answers-r
bounds-answers-r c = omega (arith, writing_length c.loop-i.invariant, c.requires.there, c.requires.room)

pub loop-i-preserved : goal.loop-i-preserved
loop-i-preserved c = ruling_next _ _ c.loop-i.invariant c.loop-i-test.true c.number_at.ensures

pub shape_of-answers : goal.shape_of-answers
shape_of-answers c = writing_length c.loop-i.invariant

pub returns : goal.returns
returns c =
    ruling_placed _ _ c.loop-i.invariant c.loop-i-test.false (omega (arith, c.requires.there, c.requires.room))
