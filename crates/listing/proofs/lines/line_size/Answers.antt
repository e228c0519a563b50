-- `line_size` meets its contract.
use Rattle.listing.proofs.RowByRow.{line_size_lem}
use Rattle.listing.proofs.lines.line_size.Goals as goal

pub returns : goal.returns
returns c = line_size_lem _ _ _ c.width_of.ensures c.code_size.ensures
