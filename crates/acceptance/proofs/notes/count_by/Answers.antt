-- `notes::count_by` meets its contract.
use native.Mathlib.Omega.{arith}
use Rattle.acceptance.proofs.Noting.{edge_count, right_few, none_before, before_count}
use Rattle.acceptance.proofs.Noting.{left_small, none_left, left_few}
use Rattle.acceptance.proofs.Noting.{condition_count, none_below, none_above, join_asked, join_count}
use Rattle.acceptance.proofs.notes.count_by.Goals as goal

pub returns-then-b-ge64 : goal.returns-then-b-ge64
returns-then-b-ge64 c = edge_count c.requires c.if-b-ge64.true

pub returns-then-at-eq0 : goal.returns-then-at-eq0
returns-then-at-eq0 c = none_before c.requires c.if-b-ge64.false c.if-at-eq0.true

pub overflow_cast-m : goal.overflow_cast-m
overflow_cast-m c = omega (arith, right_few c.requires c.if-at-eq0.false)

pub returns-then-b-eq57 : goal.returns-then-b-eq57
returns-then-b-eq57 c = before_count c.requires c.if-b-eq57.true c.if-at-eq0.false

pub overflow_cast-left : goal.overflow_cast-left
overflow_cast-left c =
    omega (
      arith,
      left_small c.requires c.if-b-ge64.false c.if-b-eq57.false c.if-at-eq0.false,
      c.requires.fits,
    )

pub returns-then-left-eq0 : goal.returns-then-left-eq0
returns-then-left-eq0 c =
    none_left c.requires c.if-b-ge64.false c.if-b-eq57.false c.if-at-eq0.false c.if-left-eq0.true

pub bounds-notes-left : goal.bounds-notes-left
bounds-notes-left c =
    omega (
      arith,
      left_small c.requires c.if-b-ge64.false c.if-b-eq57.false c.if-at-eq0.false,
      c.requires.fits,
      c.requires.counts.long,
    )

pub overflow_cast-n : goal.overflow_cast-n
overflow_cast-n c =
    omega (
      arith,
      left_few c.requires c.if-b-ge64.false c.if-b-eq57.false c.if-at-eq0.false
          c.if-left-eq0.false,
    )

pub returns-then-b-eq56 : goal.returns-then-b-eq56
returns-then-b-eq56 c =
    condition_count c.requires c.if-b-ge64.false c.if-b-eq57.false c.if-at-eq0.false
    c.if-left-eq0.false c.if-b-eq56.true

pub returns-then-b-lt50 : goal.returns-then-b-lt50
returns-then-b-lt50 c =
    none_below c.requires c.if-b-ge64.false c.if-b-eq57.false c.if-at-eq0.false
    c.if-left-eq0.false c.if-b-eq56.false c.if-b-lt50.true

pub returns-then-b-gt57 : goal.returns-then-b-gt57
returns-then-b-gt57 c =
    none_above c.requires c.if-b-ge64.false c.if-b-eq57.false c.if-at-eq0.false
    c.if-left-eq0.false c.if-b-eq56.false c.if-b-gt57.true

pub join_counts-requires : goal.join_counts-requires
join_counts-requires c =
    join_asked c.requires c.if-b-ge64.false c.if-b-eq57.false c.if-at-eq0.false
    c.if-left-eq0.false c.if-b-eq56.false c.if-b-lt50.false c.if-b-gt57.false

pub returns : goal.returns
returns c =
    join_count c.requires c.if-b-ge64.false c.if-b-eq57.false c.if-at-eq0.false
    c.if-left-eq0.false c.if-b-eq56.false c.join_counts.ensures
