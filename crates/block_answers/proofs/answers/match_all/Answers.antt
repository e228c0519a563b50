-- `answers::match_all` meets its contract.
use Rattle.block_answers.proofs.answers.match_all.Goals as goal

pub fill_rows-requires : goal.fill_rows-requires
fill_rows-requires c = record {
  fill_asked = c.requires;
  suited = c.suits.ensures.is c.if-suits.true;
}
