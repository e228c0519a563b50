-- `checks::judge` meets its contract: the first refusal is handed on.
use Rattle.std.proofs.lemmas.Result.{err_from_is_err_and}
use Rattle.judging.proofs.Checked.{trace_18, trace_10, trace_15}
use Rattle.judging.proofs.checks.judge.Goals as goal

pub returns-in_err-judge_test : goal.returns-in_err-judge_test
returns-in_err-judge_test c =
    let p = err_from_is_err_and c.from_residual.result c.from_residual.ensures.1 in
    rw (p.1, p.2) (trace_18 c.judge_test.ensures c.in_err-judge_test.was)

pub returns-in_err-judge_test-2 : goal.returns-in_err-judge_test-2
returns-in_err-judge_test-2 c =
    let q = c.from_residual-in_err-judge_test-2 in
    let p = err_from_is_err_and q.result q.ensures.1 in
    rw (p.1, p.2) (trace_10 c.judge_test.ensures c.in_ok-judge_test.was c.judge_test-2.ensures c.in_err-judge_test-2.was)

pub returns : goal.returns
returns c =
    trace_15 c.judge_test.ensures c.in_ok-judge_test.was c.judge_test-2.ensures c.in_ok-judge_test-2.was
    c.judge_codes.ensures
