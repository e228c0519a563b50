-- `written::values` meets its contract.
use Rattle.std.proofs.lemmas.Result.{err_from_is_err_and}
use Rattle.row_calls.proofs.AsWritten.{values_refused, values_ends, values_rows, values_told}
use Rattle.row_calls.proofs.written.values.Goals as goal

pub values-requires : goal.values-requires
values-requires c =
    let out = c.args.out.now in
    let g = c.in_ok-check_rows.was in
    record { ends_boolean = values_ends out c.check_rows.ensures g; filling = values_rows out c.check_rows.ensures g }

pub returns-in_err-check_rows : goal.returns-in_err-check_rows
returns-in_err-check_rows c =
    let p = err_from_is_err_and c.from_residual.result c.from_residual.ensures.1 in
    rw (p.1, p.2)
    (values_refused _ c.check_rows.ensures c.in_err-check_rows.was)

pub returns : goal.returns
returns c = values_told _ c.check_rows.ensures c.in_ok-check_rows.was c.values.ensures
