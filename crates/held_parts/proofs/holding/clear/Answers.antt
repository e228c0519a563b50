use native.Mathlib.Omega.{arith}
use Rattle.held_parts.proofs.Clearing.{ending_first, ending_next, ending_last}
use Rattle.held_parts.proofs.holding.clear.Goals as goal

pub loop-a-init : goal.loop-a-init
loop-a-init c = (omega arith, ending_first c.requires.long)

pub overflow_mul-i : goal.overflow_mul-i
overflow_mul-i c = omega (arith, c.requires.most)

pub overflow_add-i : goal.overflow_add-i
overflow_add-i c = omega (arith, c.requires.most, c.requires.room)

pub overflow_add-i-in-loop-a : goal.overflow_add-i-in-loop-a
overflow_add-i-in-loop-a c = omega (arith, c.requires.most, c.requires.room)

pub bounds-table-i : goal.bounds-table-i
bounds-table-i c = omega (arith, c.requires.most, c.requires.room, c.loop-a.invariant.1.is.long)

pub loop-a-preserved : goal.loop-a-preserved
loop-a-preserved c =
    let s = c.requires in
    (omega arith, ending_next c.loop-a.invariant.1 c.loop-a-test.true s.most s.room)

pub returns : goal.returns
returns c = ending_last c.loop-a.invariant.1 c.loop-a-test.false
