use native.Mathlib.Omega.{arith}
use Rattle.std.proofs.lemmas.Result.{err_from_is_err_and}
use Rattle.alf.specs.Refusals.{Comes}
use Rattle.text_rows.proofs.Rowing.{rowing_first, row_in, rowing_refused, rowing_few, rowing_next}
use Rattle.text_rows.proofs.Rowing.{rows_none, rows_done}
use Rattle.text_rows.proofs.rows.check_rows.Goals as goal

pub next_line-at-requires : goal.next_line-at-requires
next_line-at-requires c = c.requires.within

pub loop-at-init : goal.loop-at-init
loop-at-init c = rowing_first c.next_line-at.ensures

pub check_row-requires : goal.check_row-requires
check_row-requires c = row_in c.loop-at.invariant c.loop-at-test.true c.requires

pub returns-in_err-last : goal.returns-in_err-last
returns-in_err-last c =
    let p = err_from_is_err_and c.from_residual.result c.from_residual.ensures.1 in
    rw (p.1, p.2) (rowing_refused c.loop-at.invariant c.loop-at-test.true _ _ c.in_err-last.ensures _)

pub behind_line-behind-requires : goal.behind_line-behind-requires
behind_line-behind-requires c = c.loop-at.invariant.next.within

pub next_line-at-requires-in-loop-at : goal.next_line-at-requires-in-loop-at
next_line-at-requires-in-loop-at c = c.behind_line-behind.ensures.within

pub overflow_add-r : goal.overflow_add-r
unfolding Comes
overflow_add-r c =
    omega (
      arith,
      rowing_few c.loop-at.invariant c.loop-at-test.true c.in_ok-last.ensures.0,
    )

pub loop-at-smaller : goal.loop-at-smaller
loop-at-smaller c =
    omega (
      arith,
      c.loop-at-test.true,
      c.behind_line-behind.ensures.on c.loop-at-test.true,
      c.next_line-at-in-loop-at.ensures.low,
    )

pub loop-at-preserved : goal.loop-at-preserved
unfolding Comes
loop-at-preserved c =
    rowing_next c.loop-at.invariant c.loop-at-test.true c.in_ok-last.ensures.0 c.in_ok-last.ensures.1
    c.behind_line-behind.ensures c.next_line-at-in-loop-at.ensures

pub returns-then-r-eq0 : goal.returns-then-r-eq0
returns-then-r-eq0 c =
    rows_none c.loop-at.invariant c.loop-at-test.false _ c.if-r-eq0.true
    c.refuse.ensures

pub returns : goal.returns
returns c = rows_done c.loop-at.invariant c.loop-at-test.false c.if-r-eq0.false
