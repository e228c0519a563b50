-- `totals::totals` meets its contract.
use Rattle.block_totals.proofs.totals.totals.Goals as goal

pub count_rows-requires : goal.count_rows-requires
count_rows-requires c = record {
  rows_asked = c.requires;
  suited = c.suits.ensures.is c.if-suits.true;
}
