-- `row_size` meets its contract.
use Rattle.row_lines.proofs.RowParts.{row_sized}
use Rattle.row_lines.proofs.rows.row_size.Goals as goal

pub returns : goal.returns
returns c =
    row_sized _ _ c.of_row-c.ensures c.requires.slots.few c.width_of.ensures
    c.width_of-2.ensures c.members_size.ensures
