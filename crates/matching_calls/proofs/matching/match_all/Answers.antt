-- `matching::match_all` meets its contract.
use Rattle.std.proofs.lemmas.Result.{err_from_is_err_and}
use Rattle.matching_calls.proofs.Matches.{all_asked, all_refused, all_told}
use Rattle.matching_calls.proofs.matching.match_all.Goals as goal

pub match_tree_all-requires : goal.match_tree_all-requires
match_tree_all-requires c =
    let args = c.args in
    all_asked args.answers.now args.tried.now args.given.now args.began.now
    c.lists_are-lent.ensures c.check_timed.ensures
    c.in_ok-check_timed.was

pub returns-in_err-check_timed : goal.returns-in_err-check_timed
returns-in_err-check_timed c =
    let p = err_from_is_err_and c.from_residual.result c.from_residual.ensures.1 in
    rw (p.1, p.2)
    (let args = c.args in
    all_refused args.answers.now args.tried.now args.given.now args.began.now
    c.lists_are-lent.ensures c.check_timed.ensures c.in_err-check_timed.was)

pub returns : goal.returns
returns c =
    let args = c.args in
    all_told args.answers.now args.tried.now args.given.now args.began.now
    c.lists_are-lent.ensures c.check_timed.ensures c.in_ok-check_timed.was
    c.match_tree_all.ensures
