-- `checks::judge_codes` meets its contract.
use Rattle.judging.proofs.Checked.{codes_15, codes_good}
use Rattle.judging.proofs.checks.judge_codes.Goals as goal

pub returns-then-bad-states : goal.returns-then-bad-states
returns-then-bad-states c =
    codes_15 c.first_bad_of_many-bad.ensures c.if-bad-states.true c.refusal_of.ensures

pub returns : goal.returns
returns c = codes_good c.first_bad_of_many-bad.ensures c.if-bad-states.false
