-- `filling::fill_block` meets its contract.
use borrow.Author.Rules.{rules}
use Rattle.blocks.proofs.Readying.{answer_asked}
use Rattle.block_answers.proofs.Fillings.{numbers_to, tries_to, block_filled_lem}
use Rattle.block_answers.proofs.filling.fill_block.Goals as goal

pub answer_block-requires : goal.answer_block-requires
answer_block-requires c = answer_asked c.requires.block

pub put_numbers-requires : goal.put_numbers-requires
put_numbers-requires c = numbers_to c.requires

pub put_tries-requires : goal.put_tries-requires
put_tries-requires c = tries_to c.requires _ c.answer_block.ensures

pub returns : goal.returns
returns c =
    record {
      block_filled = (block_filled_lem c.requires _ c.answer_block.ensures c.put_numbers.ensures c.put_tries.ensures);
      cols_len_unchanged = search rules;
    }
