-- `correcting::correct` meets its contract.
use Rattle.std.proofs.lemmas.Result.{err_from_is_err_and}
use Rattle.update_calls.proofs.Corrects.{correction_asked, correction_refused, correction_told}
use Rattle.update_calls.proofs.correcting.correct.Goals as goal

pub correct_tree-requires : goal.correct_tree-requires
correct_tree-requires c =
    correction_asked c.args.answers.now
    c.correction_fits-fits.ensures c.accepts-good.ensures
    c.judge_correction.ensures c.in_ok-judge_correction.was

pub returns-in_err-judge_correction : goal.returns-in_err-judge_correction
returns-in_err-judge_correction c =
    let p = err_from_is_err_and c.from_residual.result c.from_residual.ensures.1 in
    rw (p.1, p.2)
    (correction_refused c.args.answers.now
    c.correction_fits-fits.ensures c.accepts-good.ensures
    c.judge_correction.ensures c.in_err-judge_correction.was)

pub returns : goal.returns
returns c =
    correction_told c.args.answers.now
    c.correction_fits-fits.ensures c.accepts-good.ensures
    c.judge_correction.ensures c.in_ok-judge_correction.was c.correct_tree.ensures
