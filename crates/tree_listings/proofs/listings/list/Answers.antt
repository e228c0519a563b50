-- `list` meets its contract.
use Rattle.std.proofs.lemmas.Result.{err_from_is_err_and}
use Rattle.tree_listings.proofs.TreeTexts.{list_asked, list_refused, list_written}
use Rattle.tree_listings.proofs.listings.list.Goals as goal

pub list_good-requires : goal.list_good-requires
list_good-requires c = list_asked c.args.times.now c.check_rows.ensures c.in_ok-check_rows.was

pub returns-in_err-check_rows : goal.returns-in_err-check_rows
returns-in_err-check_rows c =
    let p = err_from_is_err_and c.from_residual.result c.from_residual.ensures.1 in
    rw (p.1, p.2)
    (list_refused _ c.check_rows.ensures c.in_err-check_rows.was)

pub returns : goal.returns
returns c = list_written _ c.check_rows.ensures c.in_ok-check_rows.was c.list_good.ensures
