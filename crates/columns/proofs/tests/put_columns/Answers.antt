use native.Mathlib.Omega.{arith}
use Rattle.columns.proofs.Asking.{lining_first, column_asked, lining_next, lining_end}
use Rattle.columns.proofs.tests.put_columns.Goals as goal

pub loop-c-init : goal.loop-c-init
loop-c-init c = lining_first

pub offset_bounds-ends-c : goal.offset_bounds-ends-c
offset_bounds-ends-c c = omega (arith, c.requires.most)

pub bounds-ends-c : goal.bounds-ends-c
bounds-ends-c c = omega (arith, c.requires.some)

pub overflow_cast-end : goal.overflow_cast-end
overflow_cast-end c = omega (arith, c.type_inv.ends c.loop-c.c)

pub overflow_mul-c : goal.overflow_mul-c
overflow_mul-c c = omega (arith, c.requires.most)

pub overflow_mul-c-in-loop-c : goal.overflow_mul-c-in-loop-c
overflow_mul-c-in-loop-c c = omega (arith, c.requires.most)

pub put_column-requires : goal.put_column-requires
put_column-requires c = column_asked c.loop-c.invariant c.requires c.loop-c-test.true

pub loop-c-preserved : goal.loop-c-preserved
loop-c-preserved c =
    lining_next c.loop-c.invariant c.requires c.loop-c-test.true
    c.put_column.ensures

pub shape_of-cols : goal.shape_of-cols
shape_of-cols c = c.loop-c.invariant.long

pub returns : goal.returns
returns c = lining_end c.loop-c.invariant c.loop-c-test.false
