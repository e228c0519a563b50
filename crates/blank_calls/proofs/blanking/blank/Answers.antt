-- `blanking::blank` meets its contract.
use Rattle.std.proofs.lemmas.Result.{err_from_is_err_and}
use mathlib.Core.Path.{ap}
use mathlib.Core.Bool.{not}
use Rattle.basics.proofs.Deciding.{decided_no, decided_yes}
use Rattle.blank_calls.proofs.Outcomes.{lists_good, lists_bad, rows_asked, blank_18, blank_15, blank_done}
use Rattle.blank_calls.proofs.blanking.blank.Goals as goal

pub returns-then-not-fits : goal.returns-then-not-fits
returns-then-not-fits c =
    blank_18 (lists_bad _ _ _ _ (decided_no _ c.lists_fit-fits.ensures (ap not c.if-not-fits.true)))
    c.refuse.ensures

pub blank_rows-requires : goal.blank_rows-requires
blank_rows-requires c =
    rows_asked (lists_good _ _ _ _ (decided_yes _ c.lists_fit-fits.ensures (ap not c.if-not-fits.false)))

pub returns-in_err-judge_codes : goal.returns-in_err-judge_codes
returns-in_err-judge_codes c =
    let p = err_from_is_err_and c.from_residual.result c.from_residual.ensures.1 in
    rw (p.1, p.2)
    (blank_15 (lists_good _ _ _ _ (decided_yes _ c.lists_fit-fits.ensures (ap not c.if-not-fits.false)))
    c.judge_codes.ensures c.in_err-judge_codes.was)

pub returns : goal.returns
returns c =
    blank_done (lists_good _ _ _ _ (decided_yes _ c.lists_fit-fits.ensures (ap not c.if-not-fits.false)))
    c.judge_codes.ensures c.in_ok-judge_codes.was c.blank_rows.ensures
