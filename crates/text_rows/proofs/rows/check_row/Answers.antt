-- `check_row` meets its contract.
use Rattle.std.proofs.lemmas.Result.{err_from_is_err_and}
use Rattle.alf.specs.Refusals.{Comes}
use Rattle.alf.proofs.Orders.{by_first, by_then, passed_both}
use Rattle.text_rows.proofs.rows.check_row.Goals as goal

pub check_time-requires : goal.check_time-requires
check_time-requires c = c.requires.timed

pub check_rest-requires : goal.check_rest-requires
check_rest-requires c = c.requires.names

pub returns-in_err-time : goal.returns-in_err-time
unfolding Comes
returns-in_err-time c =
    let p = err_from_is_err_and c.from_residual.result c.from_residual.ensures.1 in
    rw (p.1, p.2) (by_first _ _ c.in_err-time.ensures)

pub returns-in_err-check_rest : goal.returns-in_err-check_rest
unfolding Comes
returns-in_err-check_rest c =
    let p = err_from_is_err_and c.from_residual-in_err-check_rest.result c.from_residual-in_err-check_rest.ensures.1 in
    rw (p.1, p.2) (by_then _ _ c.in_ok-time.ensures.0 c.in_err-check_rest.ensures)

pub returns : goal.returns
unfolding Comes
returns c = (passed_both _ _ c.in_ok-time.ensures.0 c.in_ok-check_rest.ensures.0, c.in_ok-time.ensures.1)
