use native.Mathlib.Omega.{arith}
use Rattle.row_lines.specs.Lines.{letters}
use Rattle.row_lines.proofs.InTurn.{written_first, written_room, written_next, written_end}
use Rattle.row_lines.proofs.InTurn.{written_length}
use Rattle.row_lines.proofs.rows.put_letters.Goals as goal

pub loop-i-init : goal.loop-i-init
unfolding letters
loop-i-init c = written_first _ _ c.requires.room

pub overflow_add-from : goal.overflow_add-from
overflow_add-from c = omega (arith, c.requires.there, c.loop-i-test.true)

pub bounds-states-from : goal.bounds-states-from
bounds-states-from c = omega (arith, c.requires.there, c.loop-i-test.true)

pub put_letter-p-requires : goal.put_letter-p-requires
put_letter-p-requires c =
    let room = written_room c.loop-i.invariant c.loop-i-test.true in
    record { known = c.requires.known _ c.loop-i-test.true; room = omega (arith, room) }

pub loop-i-preserved : goal.loop-i-preserved
loop-i-preserved c =
    written_next c.loop-i.invariant c.loop-i-test.true c.put_letter-p.ensures

pub shape_of-out : goal.shape_of-out
shape_of-out c = written_length c.loop-i.invariant

pub returns : goal.returns
unfolding letters
returns c = written_end c.loop-i.invariant c.loop-i-test.false
