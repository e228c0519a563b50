-- `timed::judge_times` meets its contract.
use Rattle.judging.proofs.TimedChecks.{early_13, early_good}
use Rattle.judging.proofs.timed.judge_times.Goals as goal

pub returns-then-early-times : goal.returns-then-early-times
returns-then-early-times c =
    early_13 c.first_early-early.ensures c.if-early-times.true c.refusal_of.ensures

pub returns : goal.returns
returns c = early_good c.first_early-early.ensures c.if-early-times.false
