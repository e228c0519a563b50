-- `check_record` meets its contract.
use Rattle.trace_format.specs.Records.{Due}
use Rattle.record_checks.proofs.Cursors.{cut_short, stands_at, undue}
use Rattle.record_checks.proofs.RowCursors.{row_stands}
use Rattle.record_checks.proofs.checks.check_record.Goals as goal

pub returns-then-file-at-lt2 : goal.returns-then-file-at-lt2
returns-then-file-at-lt2 c = cut_short c.requires c.refuse.ensures c.if-file-at-lt2.true

pub check_name-requires : goal.check_name-requires
check_name-requires c =
    stands_at c.requires c.if-file-at-lt2.false
    c.mark_at.ensures c.in-Name.is

pub check_row-requires : goal.check_row-requires
check_row-requires c =
    row_stands
    (stands_at c.requires c.if-file-at-lt2.false c.mark_at.ensures c.in-Row.is)

pub check_end-requires : goal.check_end-requires
check_end-requires c =
    stands_at c.requires c.if-file-at-lt2.false
    c.mark_at.ensures c.in-End.is

pub returns-in-Other : goal.returns-in-Other
unfolding Due
returns-in-Other c =
    undue
    (stands_at c.requires c.if-file-at-lt2.false
    c.mark_at.ensures c.in-Other.is)
    c.refuse-in-Other.ensures (λ d. d)
