use native.Mathlib.Omega.{arith}
use Rattle.columns.proofs.Tabling.{tabling_first, tabling_next, tabling_end}
use Rattle.columns.proofs.tables.put_tables.Goals as goal

pub loop-c-init : goal.loop-c-init
loop-c-init c = tabling_first

pub bounds-edges-c : goal.bounds-edges-c
bounds-edges-c c = omega (arith, c.requires.some)

pub overflow_mul-c : goal.overflow_mul-c
overflow_mul-c c = omega (arith, c.requires.few)

pub put_table-requires : goal.put_table-requires
put_table-requires c = omega (arith, c.loop-c.invariant.long, c.requires.room)

pub loop-c-preserved : goal.loop-c-preserved
loop-c-preserved c =
    tabling_next c.loop-c.invariant c.requires c.loop-c-test.true
    c.put_table.ensures

pub shape_of-tables : goal.shape_of-tables
shape_of-tables c = c.loop-c.invariant.long

pub returns : goal.returns
returns c = tabling_end c.loop-c.invariant c.loop-c-test.false
