-- `columns::edge_over` meets its contract.
use native.Mathlib.Omega.{arith}
use Rattle.answer_table.specs.Tables.{entry}
use Rattle.answer_table.proofs.Cells.{edge_none, edge_one}
use Rattle.answer_table.proofs.columns.edge_over.Goals as goal

pub returns-then-b-next : goal.returns-then-b-next
returns-then-b-next c = edge_none _ (entry c.args.list.now) _ _ c.if-b-next.true

pub edge_on-requires : goal.edge_on-requires
edge_on-requires c = (c.requires.codes _ (omega arith), c.requires.codes _ (omega arith))

pub returns : goal.returns
returns c = edge_one _ (entry c.args.list.now) _ _ c.if-b-next.false c.edge_on.ensures
