-- `put_row` meets its contract: the row is matched, and its line is written.
use Rattle.began_listings.proofs.RowLines.{row_asked, row_wording, row_put}
use Rattle.began_listings.proofs.rows.put_row.Goals as goal

pub find-told-requires : goal.find-told-requires
find-told-requires c = row_asked c.args.row c.requires.rows c.requires.there

pub put_line-requires : goal.put_line-requires
put_line-requires c =
    row_wording _ _ _ c.find-told.ensures c.stamp_of.ensures c.number_of-a.ensures
    c.args.out.now c.args.at c.requires.room

pub returns : goal.returns
returns c =
    row_put _ _ _ c.find-told.ensures c.stamp_of.ensures c.number_of-a.ensures
    c.put_line.ensures
