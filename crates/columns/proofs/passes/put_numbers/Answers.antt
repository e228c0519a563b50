use mathlib.Core.Path.{refl, ◌∙◌}
use native.Mathlib.Nat.{zero-add}
use native.Mathlib.Omega.{arith}
use Rattle.basics.proofs.Stores.{writing_first, writing_length}
use Rattle.basics.proofs.Listed.{ruling_next}
use Rattle.columns.proofs.Passing.{over_end}
use Rattle.columns.proofs.passes.put_numbers.Goals as goal

pub loop-i-init : goal.loop-i-init
loop-i-init c = writing_first

pub bounds-best-i : goal.bounds-best-i
bounds-best-i c = omega (arith, c.requires.few)

pub overflow_add-answers : goal.overflow_add-answers
overflow_add-answers c = omega (arith, c.requires.other, c.well_formed)

pub bounds-answers-at : goal.bounds-answers-at
bounds-answers-at c = omega (arith, writing_length c.loop-i.invariant, c.requires.other)

pub loop-i-preserved : goal.loop-i-preserved
loop-i-preserved c =
    ruling_next 0 _ c.loop-i.invariant c.loop-i-test.true
    (c.number.ensures ∙ rw zero-add refl)

pub shape_of-answers : goal.shape_of-answers
shape_of-answers c = writing_length c.loop-i.invariant

pub returns : goal.returns
returns c = over_end c.loop-i.invariant c.loop-i-test.false
