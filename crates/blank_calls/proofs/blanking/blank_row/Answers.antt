use native.Mathlib.Omega.{arith}
use Rattle.blank_calls.proofs.Rows.{one_first, one_length, one_next, one_end}
use Rattle.blank_calls.proofs.blanking.blank_row.Goals as goal

pub loop-i-init : goal.loop-i-init
loop-i-init c = one_first

pub overflow_add-state : goal.overflow_add-state
overflow_add-state c = omega (arith, c.requires)

pub bounds-states-at : goal.bounds-states-at
bounds-states-at c = omega (arith, c.requires, one_length c.loop-i.invariant)

pub overflow_add-states : goal.overflow_add-states
overflow_add-states c = omega (arith, c.requires)

pub bounds-states-at-in-loop-i : goal.bounds-states-at-in-loop-i
bounds-states-at-in-loop-i c = omega (arith, c.requires, one_length c.loop-i.invariant)

pub loop-i-preserved : goal.loop-i-preserved
loop-i-preserved c = one_next c.loop-i.invariant c.loop-i-test.true c.state_kept.ensures

pub shape_of-states : goal.shape_of-states
shape_of-states c = one_length c.loop-i.invariant

pub returns : goal.returns
returns c = one_end c.loop-i.invariant c.loop-i-test.false
