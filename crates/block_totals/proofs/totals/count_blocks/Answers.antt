use native.Mathlib.Omega.{arith}
use Rattle.block_totals.proofs.Countings.{head_counted, counting_first, counts_of}
use Rattle.block_totals.proofs.Countings.{count_asked, sums_small}
use Rattle.block_totals.proofs.Countings.{counting_next, counting_end}
use Rattle.block_totals.proofs.totals.count_blocks.Goals as goal

pub totals-head-requires : goal.totals-head-requires
totals-head-requires c = head_counted c.requires.blocks_asked.start c.requires.rows_asked

pub loop-from-init : goal.loop-from-init
loop-from-init c = counting_first _ c.requires.rows_asked c.requires.blocks_asked c.totals-head.ensures

pub count_block-part-requires : goal.count_block-part-requires
count_block-part-requires c =
    count_asked _ c.requires.rows_asked c.requires.blocks_asked c.loop-from.invariant c.loop-from-test.true
    c.min-m.ensures

pub overflow_add-yes : goal.overflow_add-yes
overflow_add-yes c =
    let s = sums_small c.loop-from.invariant (counts_of _ c.requires.rows_asked c.requires.blocks_asked
    c.count_block-part.ensures.block_counted) in
    omega (arith, s.0, c.min-m.ensures, c.loop-from-test.true, c.requires.rows_asked.rows.few)

pub overflow_add-no : goal.overflow_add-no
overflow_add-no c =
    let s = sums_small c.loop-from.invariant (counts_of _ c.requires.rows_asked c.requires.blocks_asked
    c.count_block-part.ensures.block_counted) in
    omega (arith, s.1, c.min-m.ensures, c.loop-from-test.true, c.requires.rows_asked.rows.few)

pub overflow_add-unknown : goal.overflow_add-unknown
overflow_add-unknown c =
    let s = sums_small c.loop-from.invariant (counts_of _ c.requires.rows_asked c.requires.blocks_asked
    c.count_block-part.ensures.block_counted) in
    omega (arith, s.2, c.min-m.ensures, c.loop-from-test.true, c.requires.rows_asked.rows.few)

pub overflow_add-from : goal.overflow_add-from
overflow_add-from c =
    omega (arith, c.min-m.ensures, c.loop-from-test.true, c.requires.rows_asked.rows.few)

pub loop-from-smaller : goal.loop-from-smaller
loop-from-smaller c = omega (arith, c.min-m.ensures)

pub loop-from-preserved : goal.loop-from-preserved
loop-from-preserved c =
    counting_next c.loop-from.invariant c.loop-from-test.true c.min-m.ensures
    c.count_block-part.ensures.cols_len_unchanged (counts_of _ c.requires.rows_asked c.requires.blocks_asked
    c.count_block-part.ensures.block_counted)

pub returns : goal.returns
returns c = counting_end _ c.requires.rows_asked c.requires.blocks_asked c.loop-from.invariant c.loop-from-test.false
