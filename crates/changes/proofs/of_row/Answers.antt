-- `of_row` meets its contract: the two parts are the row and the one before it.
use Rattle.changes.proofs.Rows.{row_none, row_later, row_changes}
use Rattle.changes.proofs.of_row.Goals as goal

pub returns-then-row-eq0 : goal.returns-then-row-eq0
returns-then-row-eq0 c = row_none _ _ _ c.if-row-eq0.true

pub overflow_sub-from : goal.overflow_sub-from
overflow_sub-from c = row_later _ _ c.if-row-eq0.false

pub returns : goal.returns
returns c =
    let i = c.requires in
    row_changes _ _ _ _ _ i.name_count_lem.1 c.if-row-eq0.false i.room c.changes_of.ensures
