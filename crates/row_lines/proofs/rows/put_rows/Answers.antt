use native.Mathlib.Omega.{arith}
use Rattle.row_lines.specs.Lines.{row_lines}
use Rattle.row_lines.proofs.InTurn.{written_first, written_room, written_next, written_end}
use Rattle.row_lines.proofs.InTurn.{written_length, parts_shifted}
use Rattle.row_lines.proofs.RowParts.{row_in}
use Rattle.row_lines.proofs.rows.put_rows.Goals as goal

pub loop-i-init : goal.loop-i-init
unfolding row_lines
loop-i-init c = written_first _ _ (rw (parts_shifted _ _ _) at c.requires.room)

pub overflow_add-row : goal.overflow_add-row
overflow_add-row c = omega (arith, c.loop-i-test.true, c.requires.good.few)

pub overflow_cast-row : goal.overflow_cast-row
overflow_cast-row c = omega (arith, c.loop-i-test.true, c.requires.good.few)

pub stamp_of-requires : goal.stamp_of-requires
stamp_of-requires c = omega (arith, c.loop-i-test.true, c.requires.good.rows.times_all)

pub put_row-p-requires : goal.put_row-p-requires
put_row-p-requires c =
    rw c.stamp_of.ensures
    (record {
      row = row_in c.requires.good c.loop-i-test.true;
      known = λ i h. c.requires.good.known _ i c.loop-i-test.true h;
      room = written_room c.loop-i.invariant c.loop-i-test.true;
    })

pub loop-i-preserved : goal.loop-i-preserved
loop-i-preserved c =
    written_next c.loop-i.invariant c.loop-i-test.true
    (rw c.stamp_of.ensures at c.put_row-p.ensures)

pub shape_of-out : goal.shape_of-out
shape_of-out c = written_length c.loop-i.invariant

pub returns : goal.returns
unfolding row_lines
returns c = rw (parts_shifted _ _ _) (written_end c.loop-i.invariant c.loop-i-test.false)
