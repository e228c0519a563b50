-- `last_size` meets its contract.
use Rattle.column_listings.proofs.LastLine.{last_size_lem}
use Rattle.column_listings.proofs.totals.last_size.Goals as goal

pub returns : goal.returns
returns c = last_size_lem c.width_of.ensures c.width_of-2.ensures c.width_of-3.ensures
