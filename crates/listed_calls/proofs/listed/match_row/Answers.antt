-- `listed::match_row` meets its contract.
use Rattle.std.proofs.lemmas.Result.{err_from_is_err_and}
use Rattle.listed_calls.proofs.Calls.{match_asked, match_refused, match_date, match_told}
use Rattle.listed_calls.proofs.listed.match_row.Goals as goal

pub match_row-found-requires : goal.match_row-found-requires
match_row-found-requires c =
    (match_asked c.fits-good.ensures c.lists_fit-fitting.ensures c.judge_timed_row.ensures
    c.in_ok-judge_timed_row.was).asked

pub date-requires : goal.date-requires
date-requires c =
    match_date _
    (match_asked c.fits-good.ensures c.lists_fit-fitting.ensures c.judge_timed_row.ensures
    c.in_ok-judge_timed_row.was) c.match_row-found.ensures

pub returns-in_err-judge_timed_row : goal.returns-in_err-judge_timed_row
returns-in_err-judge_timed_row c =
    let p = err_from_is_err_and c.from_residual.result c.from_residual.ensures.1 in
    rw (p.1, p.2)
    (match_refused c.fits-good.ensures c.lists_fit-fitting.ensures c.judge_timed_row.ensures
    c.in_err-judge_timed_row.was)

pub returns : goal.returns
returns c =
    match_told c.fits-good.ensures c.lists_fit-fitting.ensures c.judge_timed_row.ensures
    c.in_ok-judge_timed_row.was c.match_row-found.ensures c.date.ensures
