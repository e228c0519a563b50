-- `columns::leaf_over` meets its contract.
use native.Mathlib.Omega.{arith}
use Rattle.answer_table.specs.Tables.{entry}
use Rattle.answer_table.proofs.Cells.{leaf_condition, leaf_edge, held_more}
use Rattle.answer_table.proofs.columns.leaf_over.Goals as goal

pub held_next-requires : goal.held_next-requires
held_next-requires c =
    let s = c.requires.cells in
    record { last = s.last; code = s.codes _ (omega arith); long = s.long }

pub returns-then-k-lt64 : goal.returns-then-k-lt64
returns-then-k-lt64 c =
    let list = entry c.args.list.now in
    let t = c.if-k-lt64.true in
    leaf_condition _ list _ _ t (held_more list _ _ c.requires.cells.some (c.requires.so_far.is t) c.held_next.ensures)

pub returns : goal.returns
returns c = leaf_edge _ (entry c.args.list.now) _ _ c.if-k-lt64.false c.edge_over.ensures
