-- `limits::picking::find` meets its contract.
use Rattle.alternatives.proofs.Finding.{block_small, in_left, in_right, in_later, later}
use Rattle.alternatives.proofs.Finding.{in_together, in_with, in_chained}
use borrow.Author.Rules.{rules}
use Rattle.alternatives.proofs.picking.find.Goals as goal

pub returns-then-t-n : goal.returns-then-t-n
returns-then-t-n c = in_left c.requires c.if-b-eq55.true c.if-t-n.true

pub returns-then-b-eq55 : goal.returns-then-b-eq55
returns-then-b-eq55 c = in_right c.requires c.if-b-eq55.true c.if-t-n.false

pub overflow_mul-block : goal.overflow_mul-block
overflow_mul-block c = let l = block_small (c.requires.operands) in search rules

pub find_on-requires : goal.find_on-requires
find_on-requires c = in_later c.requires c.if-b-eq55.false c.if-block-t.true

pub returns-then-block-t : goal.returns-then-block-t
returns-then-block-t c = later c.requires c.if-block-t.true c.find_on.ensures

pub forth-requires : goal.forth-requires
forth-requires c = c.requires.operands.some_right

pub returns-then-b-eq52 : goal.returns-then-b-eq52
returns-then-b-eq52 c =
    rw (c.forth.ensures.0, c.forth.ensures.1, c.forth.ensures.2) (in_together c.requires
    c.if-b-eq52.true c.if-block-t.false)

pub forth-requires-then-b-eq54 : goal.forth-requires-then-b-eq54
forth-requires-then-b-eq54 c = c.requires.operands.some_right

pub returns-then-b-eq54 : goal.returns-then-b-eq54
returns-then-b-eq54 c =
    rw (c.forth-then-b-eq54.ensures.0, c.forth-then-b-eq54.ensures.1, c.forth-then-b-eq54.ensures.2) (in_with c.requires
    c.if-b-eq54.true c.if-block-t.false)

pub forth-requires-2 : goal.forth-requires-2
forth-requires-2 c = c.requires.operands.some_right

pub returns : goal.returns
returns c =
    rw (c.forth-2.ensures.0, c.forth-2.ensures.1, c.forth-2.ensures.2) (in_chained c.requires
    c.if-b-eq55.false c.if-b-eq52.false c.if-b-eq54.false c.if-block-t.false)
