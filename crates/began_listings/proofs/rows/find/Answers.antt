-- `find` meets its contract.
use Rattle.began_listings.proofs.RowLines.{find_date, find_dated}
use Rattle.began_listings.proofs.rows.find.Goals as goal

pub date-requires : goal.date-requires
date-requires c = find_date _ c.requires c.match_row-found.ensures

pub returns : goal.returns
returns c = find_dated _ c.requires c.match_row-found.ensures c.date.ensures
