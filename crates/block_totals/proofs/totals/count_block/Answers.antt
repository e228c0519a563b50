-- `totals::count_block` meets its contract.
use borrow.Author.Rules.{rules}
use Rattle.blocks.proofs.Readying.{answer_asked}
use Rattle.block_totals.proofs.Countings.{block_counted_lem}
use Rattle.block_totals.proofs.totals.count_block.Goals as goal

pub answer_block-requires : goal.answer_block-requires
answer_block-requires c = answer_asked c.requires

pub tally-yes-requires : goal.tally-yes-requires
tally-yes-requires c = c.requires.wide

pub tally-no-requires : goal.tally-no-requires
tally-no-requires c = c.requires.wide

pub tally-unknown-requires : goal.tally-unknown-requires
tally-unknown-requires c = c.requires.wide

pub returns : goal.returns
returns c =
    record {
      block_counted = (block_counted_lem c.requires _ c.answer_block.ensures c.tally-yes.ensures c.tally-no.ensures
          c.tally-unknown.ensures);
      cols_len_unchanged = search rules;
    }
