use native.Mathlib.Omega.{arith}
use Rattle.row_lines.specs.Lines.{row_lines}
use Rattle.row_lines.proofs.InTurn.{measured_first, measured_next, measured_end}
use Rattle.row_lines.proofs.InTurn.{parts_shifted}
use Rattle.row_lines.proofs.RowParts.{row_in}
use Rattle.row_lines.proofs.rows.rows_size.Goals as goal

pub loop-i-init : goal.loop-i-init
loop-i-init c = measured_first _ _ _

pub overflow_add-row : goal.overflow_add-row
overflow_add-row c = omega (arith, c.loop-i-test.true, c.requires.few)

pub overflow_cast-row : goal.overflow_cast-row
overflow_cast-row c = omega (arith, c.loop-i-test.true, c.requires.few)

pub stamp_of-requires : goal.stamp_of-requires
stamp_of-requires c = omega (arith, c.loop-i-test.true, c.requires.rows.times_all)

pub row_size-size-requires : goal.row_size-size-requires
row_size-size-requires c = row_in c.requires c.loop-i-test.true

pub overflow_add-size : goal.overflow_add-size
overflow_add-size c =
    omega (
      arith,
      c.loop-i.invariant.few,
      c.loop-i.invariant.within,
      c.row_size-size.ensures.few,
      c.requires.few,
    )

pub loop-i-preserved : goal.loop-i-preserved
loop-i-preserved c =
    measured_next c.loop-i.invariant c.loop-i-test.true
    (rw c.stamp_of.ensures at c.row_size-size.ensures)

pub returns : goal.returns
unfolding row_lines
returns c = rw (parts_shifted _ _ _) (measured_end c.loop-i.invariant c.loop-i-test.false)
