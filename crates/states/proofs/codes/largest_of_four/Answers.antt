use native.Mathlib.Omega.{arith}
use Rattle.states.proofs.BadCodes.{four_first, four_next, four_end}
use Rattle.states.proofs.codes.largest_of_four.Goals as goal

pub loop-i-init : goal.loop-i-init
loop-i-init c = four_first

pub bounds-states-i : goal.bounds-states-i
bounds-states-i c = omega (arith, c.requires)

pub overflow_add-q : goal.overflow_add-q
overflow_add-q c = omega (arith, c.requires, c.well_formed)

pub bounds-states-q : goal.bounds-states-q
bounds-states-q c = omega (arith, c.requires)

pub overflow_mul-q : goal.overflow_mul-q
overflow_mul-q c = omega (arith, c.requires, c.well_formed)

pub overflow_add-q-in-loop-i : goal.overflow_add-q-in-loop-i
overflow_add-q-in-loop-i c = omega (arith, c.requires, c.well_formed)

pub bounds-states-q-in-loop-i : goal.bounds-states-q-in-loop-i
bounds-states-q-in-loop-i c = omega (arith, c.requires)

pub overflow_mul-q-in-loop-i : goal.overflow_mul-q-in-loop-i
overflow_mul-q-in-loop-i c = omega (arith, c.requires, c.well_formed)

pub overflow_add-q-in-loop-i-2 : goal.overflow_add-q-in-loop-i-2
overflow_add-q-in-loop-i-2 c = omega (arith, c.requires, c.well_formed)

pub bounds-states-q-in-loop-i-2 : goal.bounds-states-q-in-loop-i-2
bounds-states-q-in-loop-i-2 c = omega (arith, c.requires)

pub loop-i-preserved : goal.loop-i-preserved
loop-i-preserved c =
    four_next c.loop-i.invariant c.loop-i-test.true c.max-a.ensures c.max-b.ensures
    c.max-c.ensures c.max-d.ensures

pub returns : goal.returns
returns c =
    four_end c.loop-i.invariant c.loop-i-test.false (omega
    (arith, c.max.ensures, c.max-2.ensures, c.max-3.ensures))
