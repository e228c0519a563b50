-- `matching::match_row` meets its contract.
use Rattle.std.proofs.lemmas.Result.{err_from_is_err_and}
use Rattle.matching_calls.proofs.Matches.{match_asked, match_refused, match_told}
use Rattle.matching_calls.proofs.matching.match_row.Goals as goal

pub match_tree-requires : goal.match_tree-requires
match_tree-requires c = match_asked c.check_timed_row.ensures c.in_ok-check_timed_row.was

pub returns-in_err-check_timed_row : goal.returns-in_err-check_timed_row
returns-in_err-check_timed_row c =
    let p = err_from_is_err_and c.from_residual.result c.from_residual.ensures.1 in
    rw (p.1, p.2)
    (match_refused c.check_timed_row.ensures c.in_err-check_timed_row.was)

pub returns : goal.returns
returns c =
    match_told c.check_timed_row.ensures c.in_ok-check_timed_row.was
    c.match_tree.ensures
