-- `is_row` meets its contract.
use mathlib.Core.Path.{sym, ◌∙◌}
use Rattle.basics.proofs.Bools.{never}
use Rattle.record_checks.proofs.ManyRows.{marked_stands, row_good_here}
use Rattle.record_checks.proofs.rows.is_row.Goals as goal

pub returns-then-file-at-lt2 : goal.returns-then-file-at-lt2
returns-then-file-at-lt2 c = record { good = never }

pub returns-then-not-is_marked : goal.returns-then-not-is_marked
returns-then-not-is_marked c = record { good = never }

pub check_row-requires : goal.check_row-requires
check_row-requires c =
    marked_stands c.requires c.if-file-at-lt2.false
    (c.is_marked.ensures.marked c.if-not-is_marked.false)

pub returns : goal.returns
returns c =
    record {
      good =
          λ e.
          row_good_here c.requires c.if-file-at-lt2.false
          (c.is_marked.ensures.marked c.if-not-is_marked.false)
          _ c.check_row.ensures (sym c.is_ok.ensures.value ∙ e);
    }
