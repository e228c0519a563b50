-- `correcting::store_codes` meets its contract.
use Rattle.std.proofs.lemmas.Result.{err_from_is_err_and}
use native.Mathlib.Omega.{arith}
use Rattle.letter_corrections.proofs.LetterCorrections.{row_fits, stored_refused, stored_told}
use Rattle.letter_corrections.proofs.correcting.store_codes.Goals as goal

pub overflow_mul-at : goal.overflow_mul-at
overflow_mul-at c =
    let f = row_fits c.requires c.judge_correction.ensures c.in_ok-judge_correction.was in
    omega (arith, c.well_formed)

pub put-requires : goal.put-requires
put-requires c =
    let f = row_fits c.requires c.judge_correction.ensures c.in_ok-judge_correction.was in
    omega (arith, c.requires.full)

pub returns-in_err-judge_correction : goal.returns-in_err-judge_correction
returns-in_err-judge_correction c =
    let p = err_from_is_err_and c.from_residual.result c.from_residual.ensures.1 in
    rw (p.1, p.2)
    (stored_refused c.requires c.judge_correction.ensures c.in_err-judge_correction.was)

pub returns : goal.returns
returns c =
    stored_told c.requires c.judge_correction.ensures c.in_ok-judge_correction.was
    c.put.ensures
