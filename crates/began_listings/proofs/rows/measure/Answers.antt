use native.Mathlib.Omega.{arith}
use Rattle.began_listings.proofs.RowLines.{measured_first, measured_all}
use Rattle.began_listings.proofs.rows.measure.Goals as goal

pub loop-i-init : goal.loop-i-init
loop-i-init c = (omega arith, measured_first _ _ _)

pub measure_row-m-requires : goal.measure_row-m-requires
measure_row-m-requires c =
    record { rows = c.requires; there = c.loop-i-test.true; measured = c.loop-i.invariant.1 }

pub loop-i-preserved : goal.loop-i-preserved
loop-i-preserved c = (omega (arith, c.loop-i-test.true), c.measure_row-m.ensures)

pub returns : goal.returns
returns c = measured_all _ _ _ c.loop-i.invariant.0 c.loop-i-test.false c.loop-i.invariant.1
