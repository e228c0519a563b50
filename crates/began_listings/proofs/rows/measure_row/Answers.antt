-- `measure_row` meets its contract: the row is matched, its line is measured, and both are added.
use native.Mathlib.Omega.{arith}
use mathlib.Core.Path.{◌∙◌}
use Rattle.began_listings.proofs.RowLines.{row_asked, row_known, row_sized, measured_asked, measured_next}
use Rattle.began_listings.proofs.rows.measure_row.Goals as goal

pub find-told-requires : goal.find-told-requires
find-told-requires c = row_asked c.args.row c.requires.rows c.requires.there

pub line_size-requires : goal.line_size-requires
line_size-requires c = row_known _ _ _ c.find-told.ensures c.stamp_of.ensures c.number_of-a.ensures

pub add-requires : goal.add-requires
add-requires c =
    measured_asked _ _ _ c.requires.measured (omega (arith, c.requires.there, c.requires.rows.asked.rows.few))
    c.line_size.ensures

pub returns : goal.returns
returns c =
    let line = row_sized _ _ _ c.find-told.ensures c.stamp_of.ensures c.number_of-a.ensures
    c.line_size.ensures in
    measured_next _ _ _ c.requires.measured (c.number_of-a.ensures ∙ c.find-told.ensures.matches.is) line
    c.add.ensures
