-- `check_trace` meets its contract.
use Rattle.std.proofs.lemmas.Result.{err_from_is_err_and}
use native.Mathlib.Omega.{arith}
use Rattle.trace_writer.proofs.TraceChecks.{comes_first, checked_rows, names_good, some_rows}
use Rattle.trace_writer.proofs.checks.check_trace.Goals as goal

pub check_rows-requires : goal.check_rows-requires
check_rows-requires c = some_rows (names_good c.check_lists.ensures c.in_ok-k.was) _ _ (omega arith)

pub returns-in_err-k : goal.returns-in_err-k
returns-in_err-k c =
    let p = err_from_is_err_and c.from_residual.result c.from_residual.ensures.1 in
    rw (p.1, p.2) (comes_first _ _ _ _ c.check_lists.ensures c.in_err-k.was)

pub returns : goal.returns
returns c =
    checked_rows (names_good c.check_lists.ensures c.in_ok-k.was)
    c.check_rows.result c.check_rows.ensures
