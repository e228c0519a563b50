-- `checks::check_rows` meets its contract.
use Rattle.judging.proofs.Checked.{checks_rows}
use Rattle.judging.proofs.checks.check_rows.Goals as goal

pub returns : goal.returns
returns c =
    checks_rows _ _ _ _ _ _ _ _ c.accepts-good.ensures _ c.lists_fit-fits.ensures c.judge.ensures
