-- `limits::picking::find_on` meets its contract.
use Rattle.alternatives.proofs.Finding.{block_small, on_either, on_with_or_then, on_any_together, on_any_back}
use borrow.Author.Rules.{rules}
use Rattle.alternatives.proofs.picking.find_on.Goals as goal

pub returns-then-b-eq51 : goal.returns-then-b-eq51
returns-then-b-eq51 c =
    rw (c.back.ensures.0, c.back.ensures.1, c.back.ensures.2) (on_either c.requires
    c.if-b-eq51.true)

pub returns-then-b-eq52 : goal.returns-then-b-eq52
returns-then-b-eq52 c =
    rw (c.forth.ensures.0, c.forth.ensures.1, c.forth.ensures.2) (on_with_or_then c.requires
    c.if-b-eq52.true)

pub overflow_mul-block : goal.overflow_mul-block
overflow_mul-block c = let l = block_small (c.requires.operands) in search rules

pub returns-then-v-block : goal.returns-then-v-block
returns-then-v-block c =
    rw (c.forth-then-v-block.ensures.0, c.forth-then-v-block.ensures.1, c.forth-then-v-block.ensures.2) (on_any_together c.requires
    c.if-b-eq51.false c.if-b-eq52.false c.if-v-block.true)

pub returns : goal.returns
returns c =
    rw (c.back-2.ensures.0, c.back-2.ensures.1, c.back-2.ensures.2) (on_any_back c.requires c.if-b-eq51.false
    c.if-b-eq52.false c.if-v-block.false)
