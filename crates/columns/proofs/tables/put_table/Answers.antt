use mathlib.Core.Path.{refl, ◌∙◌}
use native.Mathlib.Nat.{zero-add}
use native.Mathlib.Omega.{arith}
use Rattle.basics.proofs.Stores.{writing_first, writing_length}
use Rattle.basics.proofs.Listed.{ruling_next}
use Rattle.columns.proofs.Passing.{over_end}
use Rattle.columns.proofs.tables.put_table.Goals as goal

pub loop-q-init : goal.loop-q-init
loop-q-init c = writing_first

pub bounds-tables-base : goal.bounds-tables-base
bounds-tables-base c = omega (arith, writing_length c.loop-q.invariant)

pub loop-q-preserved : goal.loop-q-preserved
loop-q-preserved c =
    ruling_next 0 _ c.loop-q.invariant c.loop-q-test.true
    (c.edge_on.ensures ∙ rw zero-add refl)

pub shape_of-tables : goal.shape_of-tables
shape_of-tables c = writing_length c.loop-q.invariant

pub returns : goal.returns
returns c = over_end c.loop-q.invariant c.loop-q-test.false
