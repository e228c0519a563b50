use native.Mathlib.Omega.{arith}
use Rattle.block_answers.proofs.Fillings.{head_asked, filling_first, cut_asked}
use Rattle.block_answers.proofs.Fillings.{filling_next, filling_end}
use Rattle.block_answers.proofs.Fillings.{answers_long, tried_long}
use Rattle.block_answers.proofs.filling.fill_blocks.Goals as goal

pub match_all-requires : goal.match_all-requires
match_all-requires c = head_asked c.requires.fill_asked c.requires.blocks_asked

pub loop-from-init : goal.loop-from-init
loop-from-init c = filling_first c.requires.fill_asked c.requires.blocks_asked _ _ _ _

pub fill_block-requires : goal.fill_block-requires
fill_block-requires c =
    cut_asked c.requires.fill_asked c.requires.blocks_asked c.loop-from.invariant c.loop-from-test.true
    c.min-m.ensures (answers_long c.requires.fill_asked c.requires.blocks_asked c.match_all.ensures) (tried_long
    c.requires.fill_asked c.requires.blocks_asked c.match_all.ensures)

pub overflow_add-from : goal.overflow_add-from
overflow_add-from c =
    omega (arith, c.min-m.ensures, c.loop-from-test.true, c.requires.fill_asked.asked.rows.few)

pub loop-from-smaller : goal.loop-from-smaller
loop-from-smaller c = omega (arith, c.min-m.ensures)

pub loop-from-preserved : goal.loop-from-preserved
loop-from-preserved c =
    filling_next _ c.requires.fill_asked c.requires.blocks_asked c.loop-from.invariant c.loop-from-test.true
    c.min-m.ensures c.match_all.ensures c.fill_block.ensures.cols_len_unchanged
    c.fill_block.ensures.block_filled

pub returns : goal.returns
returns c =
    filling_end _ c.requires.fill_asked c.requires.blocks_asked c.loop-from.invariant c.loop-from-test.false
    c.match_all.ensures
