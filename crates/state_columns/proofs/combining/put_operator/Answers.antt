use native.Mathlib.Omega.{arith}
use Rattle.state_columns.proofs.Stating.{stating_first, stating_length, stating_next_front, stating_end}
use Rattle.state_columns.proofs.combining.put_operator.Goals as goal

pub loop-q-init : goal.loop-q-init
loop-q-init c = stating_first

pub bounds-table-q : goal.bounds-table-q
bounds-table-q c = omega (arith, c.requires.in_bounds, stating_length c.loop-q.invariant)

pub loop-q-preserved : goal.loop-q-preserved
loop-q-preserved c = stating_next_front c.loop-q.invariant c.loop-q-test.true c.operated.ensures

pub shape_of-table : goal.shape_of-table
shape_of-table c = stating_length c.loop-q.invariant

pub returns : goal.returns
returns c = stating_end c.loop-q.invariant c.loop-q-test.false
