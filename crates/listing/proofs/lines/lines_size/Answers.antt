use native.Mathlib.Omega.{arith}
use mathlib.Core.Path.{refl}
use Rattle.listing.proofs.RowByRow.{sizing_first, sizing_next, sizing_end}
use Rattle.listing.proofs.lines.lines_size.Goals as goal

pub loop-i-init : goal.loop-i-init
loop-i-init c = sizing_first

pub overflow_cast-i : goal.overflow_cast-i
overflow_cast-i c = omega (arith, c.loop-i-test.true, c.requires.lists.same, c.requires.lists.rows.1)

pub stamp_of-requires : goal.stamp_of-requires
stamp_of-requires c = omega (arith, c.loop-i-test.true, c.requires.lists.same)

pub bounds-codes-i : goal.bounds-codes-i
bounds-codes-i c = c.loop-i-test.true

pub line_size-size-requires : goal.line_size-size-requires
line_size-size-requires c = c.requires.good _ c.loop-i-test.true

pub overflow_add-size : goal.overflow_add-size
overflow_add-size c =
    omega (
      arith,
      c.loop-i.invariant.few,
      c.line_size-size.ensures.few,
      c.loop-i-test.true,
      c.requires.lists.same,
      c.requires.lists.rows.1,
    )

pub loop-i-preserved : goal.loop-i-preserved
loop-i-preserved c =
    sizing_next c.requires.lists.same c.loop-i.invariant c.loop-i-test.true c.stamp_of.ensures refl
    c.line_size-size.ensures

pub returns : goal.returns
returns c =
    sizing_end c.requires.lists.same c.loop-i.invariant c.loop-i-test.false
    (omega (arith, c.requires.lists.same, c.requires.lists.rows.1))
