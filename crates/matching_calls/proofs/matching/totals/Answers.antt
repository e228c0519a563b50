-- `matching::totals` meets its contract.
use Rattle.std.proofs.lemmas.Result.{err_from_is_err_and}
use Rattle.matching_calls.proofs.Matches.{totals_asked, totals_refused, totals_told}
use Rattle.matching_calls.proofs.matching.totals.Goals as goal

pub total_tree-requires : goal.total_tree-requires
total_tree-requires c = totals_asked c.check_rows.ensures c.in_ok-check_rows.was

pub returns-in_err-check_rows : goal.returns-in_err-check_rows
returns-in_err-check_rows c =
    let p = err_from_is_err_and c.from_residual.result c.from_residual.ensures.1 in
    rw (p.1, p.2)
    (totals_refused c.check_rows.ensures c.in_err-check_rows.was)

pub returns : goal.returns
returns c =
    totals_told c.check_rows.ensures c.in_ok-check_rows.was
    c.total_tree.ensures
