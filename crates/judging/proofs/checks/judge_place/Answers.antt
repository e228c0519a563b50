-- `checks::judge_place` meets its contract.
use Rattle.judging.proofs.Checked.{place_19, place_good}
use Rattle.judging.proofs.checks.judge_place.Goals as goal

pub returns-then-n-row : goal.returns-then-n-row
returns-then-n-row c = place_19 _ _ c.if-n-row.true c.refusal_of.ensures

pub returns : goal.returns
returns c = place_good _ _ c.if-n-row.false
