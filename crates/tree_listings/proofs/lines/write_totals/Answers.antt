-- `write_totals` meets its contract.
use Rattle.std.proofs.lemmas.Result.{err_from_is_err_and}
use native.Mathlib.Omega.{arith}
use Rattle.tree_listings.proofs.TreeTexts.{counted_few, line_refused, line_written}
use Rattle.tree_listings.proofs.lines.write_totals.Goals as goal

pub overflow_cast-n : goal.overflow_cast-n
overflow_cast-n c = omega (arith, counted_few c.totals.ensures c.in_ok-t.was)

pub returns-in_err-t : goal.returns-in_err-t
returns-in_err-t c =
    let p = err_from_is_err_and c.from_residual.result c.from_residual.ensures.1 in
    rw (p.1, p.2)
    (line_refused c.totals.ensures c.in_err-t.was)

pub returns : goal.returns
returns c = line_written c.totals.ensures _ c.in_ok-t.was c.write_line.ensures
