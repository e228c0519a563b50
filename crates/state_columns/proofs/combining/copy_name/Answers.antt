use mathlib.Core.Path.{refl}
use native.Mathlib.Omega.{arith}
use Rattle.state_columns.proofs.Stating.{stating_first, stating_length, stating_next, stating_end}
use Rattle.state_columns.proofs.combining.copy_name.Goals as goal

pub loop-i-init : goal.loop-i-init
loop-i-init c = stating_first

pub overflow_add-parts : goal.overflow_add-parts
overflow_add-parts c = omega (arith, c.requires.few)

pub overflow_mul-parts : goal.overflow_mul-parts
overflow_mul-parts c = omega (arith, c.requires.there c.loop-i.i c.loop-i-test.true, c.well_formed)

pub overflow_add-parts-in-loop-i : goal.overflow_add-parts-in-loop-i
overflow_add-parts-in-loop-i c =
    omega (arith, c.requires.there c.loop-i.i c.loop-i-test.true, c.well_formed)

pub bounds-states-lo : goal.bounds-states-lo
bounds-states-lo c = c.requires.there c.loop-i.i c.loop-i-test.true

pub overflow_add-parts-in-loop-i-2 : goal.overflow_add-parts-in-loop-i-2
overflow_add-parts-in-loop-i-2 c = omega (arith, c.requires.room, c.well_formed)

pub bounds-parts-o : goal.bounds-parts-o
bounds-parts-o c = omega (arith, c.requires.room, stating_length c.loop-i.invariant)

pub loop-i-preserved : goal.loop-i-preserved
loop-i-preserved c =
    stating_next c.loop-i.invariant c.loop-i-test.true (record {
      is = refl;
      code = c.requires.codes c.loop-i.i c.loop-i-test.true;
    })

pub shape_of-parts : goal.shape_of-parts
shape_of-parts c = stating_length c.loop-i.invariant

pub returns : goal.returns
returns c = stating_end c.loop-i.invariant c.loop-i-test.false
