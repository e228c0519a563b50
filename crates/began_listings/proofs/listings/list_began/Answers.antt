-- `list_began` meets its contract.
use Rattle.std.proofs.lemmas.Result.{err_from_is_err_and}
use Rattle.began_listings.proofs.BeganTexts.{began_asked, began_refused, began_written}
use Rattle.began_listings.proofs.listings.list_began.Goals as goal

pub list_good-requires : goal.list_good-requires
list_good-requires c = began_asked c.args.times.now c.check_timed.ensures c.in_ok-check_timed.was

pub returns-in_err-check_timed : goal.returns-in_err-check_timed
returns-in_err-check_timed c =
    let p = err_from_is_err_and c.from_residual.result c.from_residual.ensures.1 in
    rw (p.1, p.2)
    (began_refused _ c.check_timed.ensures c.in_err-check_timed.was)

pub returns : goal.returns
returns c =
    began_written _ c.check_timed.ensures c.in_ok-check_timed.was
    c.list_good.ensures
