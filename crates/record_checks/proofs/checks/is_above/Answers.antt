-- `is_above` meets its contract.
use Rattle.record_checks.proofs.RowCursors.{above_first, above_yes, above_no}
use Rattle.record_checks.proofs.checks.is_above.Goals as goal

pub returns-then-s-eq0 : goal.returns-then-s-eq0
returns-then-s-eq0 c = above_first c.requires.at_row c.if-s-eq0.true

pub returns-then-s-time_at : goal.returns-then-s-time_at
returns-then-s-time_at c =
    above_yes c.requires.at_row c.time_at.ensures
    c.if-s-time_at.true

pub returns : goal.returns
returns c =
    above_no c.requires.at_row c.time_at.ensures
    c.if-s-eq0.false c.if-s-time_at.false
