-- `check_time` meets its contract.
use native.Mathlib.Omega.{arith}
use mathlib.Core.Logic.{⊎_elim}
use Rattle.text_rows.proofs.RowChecks.{time_late, time_none, time_early, time_good}
use Rattle.text_rows.proofs.rows.check_time.Goals as goal

pub returns-then-r-ge65535 : goal.returns-then-r-ge65535
returns-then-r-ge65535 c = time_late _ _ c.row_time-t.ensures _ c.if-r-ge65535.true c.refuse.ensures

pub returns-in_default : goal.returns-in_default
returns-in_default c =
    time_none _ _ c.row_time-t.ensures c.if-r-ge65535.false _ c.in_default.is c.refuse-in_default.ensures

pub returns-then-time-last : goal.returns-then-time-last
returns-then-time-last c =
    time_early _ _ c.row_time-t.ensures c.if-r-ge65535.false c.in-Some.is _ c.if-r-gt0.true c.if-time-last.true
    c.refuse-then-time-last.ensures

pub returns : goal.returns
returns c =
    time_good _ _ c.row_time-t.ensures c.if-r-ge65535.false c.in-Some.is
    (λ h. ⊎_elim (λ w. w.1) (λ w. absurd (omega arith)) c.else-r-gt0.either)
