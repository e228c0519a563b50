-- `rows::answer_block` meets its contract.
use native.Mathlib.Omega.{arith}
use borrow.Author.Rules.{rules}
use Rattle.blocks.proofs.Preparing.{columns_asked, block_asked, answered}
use Rattle.blocks.proofs.rows.answer_block.Goals as goal

pub overflow_sub-from : goal.overflow_sub-from
overflow_sub-from c = c.requires.block.start

pub overflow_add-m : goal.overflow_add-m
overflow_add-m c = omega (arith, c.requires.block.wide)

pub put_columns-requires : goal.put_columns-requires
put_columns-requires c = columns_asked c.requires

pub match_block-requires : goal.match_block-requires
match_block-requires c = block_asked c.requires (search rules) (search rules)

pub returns : goal.returns
returns c = answered c.requires _ c.put_columns.ensures c.match_block.ensures
