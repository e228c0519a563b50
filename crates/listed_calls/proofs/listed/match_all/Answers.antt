-- `listed::match_all` meets its contract.
use Rattle.std.proofs.lemmas.Result.{err_from_is_err_and}
use Rattle.listed_calls.proofs.Calls.{all_asked, all_refused, all_marks, all_told}
use Rattle.listed_calls.proofs.listed.match_all.Goals as goal

pub match_all-requires : goal.match_all-requires
match_all-requires c =
    let args = c.args in
    (all_asked c.fits-good.ensures args.times.now args.answers.now args.tried.now
    args.given.now args.began.now _
    c.lists_are-lent.ensures c.lists_fit-fitting.ensures c.judge_timed.ensures
    c.in_ok-judge_timed.was).asked

pub mark-requires : goal.mark-requires
mark-requires c =
    let args = c.args in
    all_marks _
    (all_asked c.fits-good.ensures args.times.now args.answers.now args.tried.now
    args.given.now args.began.now _
    c.lists_are-lent.ensures c.lists_fit-fitting.ensures c.judge_timed.ensures
    c.in_ok-judge_timed.was) c.match_all.ensures

pub returns-in_err-judge_timed : goal.returns-in_err-judge_timed
returns-in_err-judge_timed c =
    let p = err_from_is_err_and c.from_residual.result c.from_residual.ensures.1 in
    rw (p.1, p.2)
    (let args = c.args in
    all_refused c.fits-good.ensures args.times.now args.answers.now args.tried.now
    args.given.now args.began.now _
    c.lists_are-lent.ensures c.lists_fit-fitting.ensures c.judge_timed.ensures
    c.in_err-judge_timed.was)

pub returns : goal.returns
returns c =
    let args = c.args in
    all_told c.fits-good.ensures args.times.now args.answers.now args.tried.now
    args.given.now args.began.now _
    c.lists_are-lent.ensures c.lists_fit-fitting.ensures c.judge_timed.ensures
    c.in_ok-judge_timed.was c.match_all.ensures c.mark.ensures
