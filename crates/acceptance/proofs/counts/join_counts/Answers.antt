-- `counts::join_counts` meets its contract.
use Rattle.acceptance.proofs.CappedCounts.{count_sum, count_thrice, count_either, count_with_or_then, count_once}
use Rattle.acceptance.proofs.Numbers.{counts_small}
use borrow.Author.Rules.{rules}
use Rattle.acceptance.proofs.counts.join_counts.Goals as goal

pub returns-then-b-eq55 : goal.returns-then-b-eq55
returns-then-b-eq55 c = rw (count_sum _ _ c.if-b-eq55.true) c.cap.ensures

pub overflow_mul-block : goal.overflow_mul-block
overflow_mul-block c = let l = counts_small c.requires in search rules

pub overflow_add-block : goal.overflow_add-block
overflow_add-block c = let l = counts_small c.requires in search rules

pub overflow_add-block-then-b-eq53 : goal.overflow_add-block-then-b-eq53
overflow_add-block-then-b-eq53 c = let l = counts_small c.requires in search rules

pub returns-then-b-eq53 : goal.returns-then-b-eq53
returns-then-b-eq53 c = rw (count_thrice _ _ c.if-b-eq53.true) c.cap-then-b-eq53.ensures

pub overflow_add-block-then-b-eq51 : goal.overflow_add-block-then-b-eq51
overflow_add-block-then-b-eq51 c = let l = counts_small c.requires in search rules

pub returns-then-b-eq51 : goal.returns-then-b-eq51
returns-then-b-eq51 c = rw (count_either _ _ c.if-b-eq51.true) c.cap-then-b-eq51.ensures

pub overflow_add-block-then-b-eq52 : goal.overflow_add-block-then-b-eq52
overflow_add-block-then-b-eq52 c = let l = counts_small c.requires in search rules

pub returns-then-b-eq52 : goal.returns-then-b-eq52
returns-then-b-eq52 c = rw (count_with_or_then _ _ c.if-b-eq52.true) c.cap-then-b-eq52.ensures

pub returns : goal.returns
returns c =
    rw (count_once _ _ c.requires.joins c.requires.no_more c.if-b-eq55.false c.if-b-eq53.false c.if-b-eq51.false
    c.if-b-eq52.false) c.cap-2.ensures
