use mathlib.Core.Path.{refl, ◌∙◌}
use native.Mathlib.Nat.{zero-add}
use native.Mathlib.Omega.{arith}
use Rattle.basics.proofs.Stores.{writing_first, writing_length}
use Rattle.basics.proofs.Listed.{ruling_next}
use Rattle.columns.proofs.Passing.{over_end}
use Rattle.columns.proofs.Looking.{through_first, through_code, through_next, through_looked}
use Rattle.columns.proofs.tests.ask_spelt.Goals as goal

pub overflow_cast-before : goal.overflow_cast-before
overflow_cast-before c = omega (arith, c.requires.codes 0 (omega arith))

pub loop-i-init : goal.loop-i-init
loop-i-init c = (through_first c.requires, writing_first)

pub overflow_add-after : goal.overflow_add-after
overflow_add-after c = omega (arith, c.requires.wide)

pub bounds-spelt-i : goal.bounds-spelt-i
bounds-spelt-i c = omega (arith, c.requires.wide)

pub overflow_cast-after : goal.overflow_cast-after
overflow_cast-after c =
    omega (
      arith,
      through_code c.requires c.loop-i.invariant.0
          c.loop-i-test.true,
    )

pub overflow_mul-cols : goal.overflow_mul-cols
overflow_mul-cols c = omega (arith, c.loop-i.invariant.0.code)

pub overflow_add-cols : goal.overflow_add-cols
overflow_add-cols c =
    omega (
      arith,
      c.loop-i.invariant.0.code,
      through_code c.requires c.loop-i.invariant.0
          c.loop-i-test.true,
    )

pub overflow_add-cols-in-loop-i : goal.overflow_add-cols-in-loop-i
overflow_add-cols-in-loop-i c =
    omega (
      arith,
      c.loop-i.invariant.0.code,
      through_code c.requires c.loop-i.invariant.0
          c.loop-i-test.true,
      c.requires.table,
      c.well_formed,
    )

pub bounds-tables-base : goal.bounds-tables-base
bounds-tables-base c =
    omega (
      arith,
      c.loop-i.invariant.0.code,
      through_code c.requires c.loop-i.invariant.0
          c.loop-i-test.true,
      c.requires.table,
    )

pub overflow_add-cols-in-loop-i-2 : goal.overflow_add-cols-in-loop-i-2
overflow_add-cols-in-loop-i-2 c = omega (arith, c.requires.room, c.well_formed)

pub bounds-cols-o : goal.bounds-cols-o
bounds-cols-o c = omega (arith, writing_length c.loop-i.invariant.1, c.requires.room)

pub loop-i-preserved : goal.loop-i-preserved
loop-i-preserved c = (
  through_next c.requires c.loop-i.invariant.0 c.loop-i-test.true,
  ruling_next 0 _ c.loop-i.invariant.1 c.loop-i-test.true
      (through_looked c.requires c.loop-i.invariant.0 c.loop-i-test.true ∙ rw zero-add refl),
)

pub shape_of-cols : goal.shape_of-cols
shape_of-cols c = writing_length c.loop-i.invariant.1

pub returns : goal.returns
returns c = over_end c.loop-i.invariant.1 c.loop-i-test.false
