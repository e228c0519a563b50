-- `timed::check_timed` meets its contract.
use Rattle.judging.proofs.TimedChecks.{checks_timed}
use Rattle.judging.proofs.timed.check_timed.Goals as goal

pub returns : goal.returns
returns c =
    checks_timed _ _ _ _ _ _ _ _ _ c.lists_fit-fits.ensures c.accepts-good.ensures c.judge_timed.ensures
