-- `checks::check_row` meets its contract.
use Rattle.judging.proofs.Checked.{checks_row}
use Rattle.judging.proofs.checks.check_row.Goals as goal

pub returns : goal.returns
returns c =
    checks_row _ _ _ _ _ _ _ _ c.accepts-good.ensures c.rows_fit-fits.ensures c.judge_row.ensures
