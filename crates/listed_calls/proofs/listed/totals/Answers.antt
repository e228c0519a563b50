-- `listed::totals` meets its contract.
use Rattle.std.proofs.lemmas.Result.{err_from_is_err_and}
use Rattle.listed_calls.proofs.Calls.{totals_asked, totals_refused, totals_told}
use Rattle.listed_calls.proofs.listed.totals.Goals as goal

pub totals-requires : goal.totals-requires
totals-requires c =
    totals_asked c.fits-good.ensures c.rows_fit-fitting.ensures c.judge.ensures c.in_ok-judge.was

pub returns-in_err-judge : goal.returns-in_err-judge
returns-in_err-judge c =
    let p = err_from_is_err_and c.from_residual.result c.from_residual.ensures.1 in
    rw (p.1, p.2)
    (totals_refused c.fits-good.ensures c.rows_fit-fitting.ensures c.judge.ensures c.in_err-judge.was)

pub returns : goal.returns
returns c =
    totals_told c.fits-good.ensures c.rows_fit-fitting.ensures c.judge.ensures
    c.in_ok-judge.was
    c.totals.ensures
