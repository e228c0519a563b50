-- `write_trace` meets its contract.
use Rattle.std.proofs.lemmas.Result.{err_from_is_err_and}
use Rattle.trace_writer.proofs.TraceChecks.{trace_good}
use Rattle.trace_writer.proofs.WriteOutcomes.{writes_refused}
use Rattle.trace_writer.proofs.write.write_trace.Goals as goal

pub write_good-requires : goal.write_good-requires
write_good-requires c = trace_good c.check_trace.ensures c.in_ok-k.was

pub returns-in_err-k : goal.returns-in_err-k
returns-in_err-k c =
    let p = err_from_is_err_and c.from_residual.result c.from_residual.ensures.1 in
    rw (p.1, p.2) (writes_refused _ _ c.check_trace.ensures c.in_err-k.was)
