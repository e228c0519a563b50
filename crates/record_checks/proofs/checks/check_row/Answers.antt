-- `check_row` meets its contract.
use Rattle.record_checks.proofs.RowCursors.{
  row_unnamed,
  row_65536th,
  row_cut,
  row_whole,
  row_not_above,
  row_code,
  row_good,
}
use Rattle.record_checks.proofs.checks.check_row.Goals as goal

pub returns-then-k-eq0 : goal.returns-then-k-eq0
returns-then-k-eq0 c = row_unnamed c.requires.at_row c.refuse.ensures c.if-k-eq0.true

pub returns-then-s-gt65534 : goal.returns-then-s-gt65534
returns-then-s-gt65534 c =
    row_65536th c.requires.at_row c.refuse-then-s-gt65534.ensures c.if-s-gt65534.true

pub returns-then-file-at : goal.returns-then-file-at
returns-then-file-at c =
    row_cut c.requires.at_row c.if-k-eq0.false
    c.if-s-gt65534.false c.refuse-then-file-at.ensures c.if-file-at.true

pub is_above-requires : goal.is_above-requires
is_above-requires c =
    row_whole c.requires.at_row c.if-k-eq0.false
    c.if-s-gt65534.false c.if-file-at.false

pub returns-then-not-is_above : goal.returns-then-not-is_above
returns-then-not-is_above c =
    row_not_above c.requires.at_row
    c.if-k-eq0.false c.if-s-gt65534.false
    c.if-file-at.false c.is_above.ensures
    c.refuse-then-not-is_above.ensures c.if-not-is_above.true

pub returns-then-bad-to : goal.returns-then-bad-to
returns-then-bad-to c =
    row_code c.requires.at_row
    c.if-k-eq0.false
    c.if-s-gt65534.false
    c.if-file-at.false c.is_above.ensures
    c.if-not-is_above.false c.codes_to-bad.ensures c.refuse-then-bad-to.ensures
    c.if-bad-to.true

pub returns : goal.returns
returns c =
    row_good c.requires.at_row
    c.if-k-eq0.false
    c.if-s-gt65534.false c.if-file-at.false
    c.is_above.ensures
    c.if-not-is_above.false c.codes_to-bad.ensures c.if-bad-to.false
