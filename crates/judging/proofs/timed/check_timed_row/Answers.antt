-- `timed::check_timed_row` meets its contract.
use Rattle.judging.proofs.TimedChecks.{checks_timed_row}
use mathlib.Core.Path.{refl}
use Rattle.judging.proofs.timed.check_timed_row.Goals as goal

pub returns : goal.returns
returns c =
    checks_timed_row _ _ _ _ _ _ _ _ _ c.lists_fit-fits.ensures c.accepts-good.ensures
    refl c.judge_timed_row.ensures
