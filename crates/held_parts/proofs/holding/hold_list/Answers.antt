use native.Mathlib.Omega.{arith}
use Rattle.held_parts.proofs.Clearing.{moving_first, moving_next, staying_next, moving_last}
use Rattle.held_parts.proofs.holding.hold_list.Goals as goal
use Rattle.held_parts.proofs.holding.hold_list.Goals.{then-list-b, else-list-b}

pub loop-b-init : goal.loop-b-init
loop-b-init c = (omega arith, moving_first c.requires.long)

pub overflow_add-next : goal.overflow_add-next
overflow_add-next c = omega (arith, c.requires.most)

pub bounds-list-b : goal.bounds-list-b
bounds-list-b c = omega (arith, c.requires.most)

pub bounds-list-next : goal.bounds-list-next
bounds-list-next c = omega (arith, c.requires.most)

pub clear-requires : goal.clear-requires
clear-requires c =
    let s = c.requires in
    record { most = omega (arith, s.most); room = s.room; long = c.loop-b.invariant.1.is.long }

pub loop-b-preserved : goal.loop-b-preserved
loop-b-preserved c = (
  omega arith,
  elim c.if-list-b.branch [
    | then-list-b w ↦ rw w.table-is (moving_next c.loop-b.invariant.1 c.requires.most w.if-list-b.true w.clear.ensures)
    | else-list-b w ↦ rw w.table-is (staying_next c.loop-b.invariant.1 w.if-list-b.false)
  ],
)

pub returns : goal.returns
returns c = moving_last c.loop-b.invariant.1 c.loop-b-test.false
