-- `activity` meets its contract.
use Rattle.std.proofs.lemmas.Result.{err_from_is_err_and}
use Rattle.trace_writer.proofs.TraceChecks.{trace_good}
use Rattle.activity.proofs.WholeText.{whole_good, tells_refused, tells_delivered}
use Rattle.activity.proofs.texts.activity.Goals as goal

pub write_part-requires : goal.write_part-requires
write_part-requires c = whole_good (trace_good c.check_trace.ensures c.in_ok-k.was)

pub returns-in_err-k : goal.returns-in_err-k
returns-in_err-k c =
    let p = err_from_is_err_and c.from_residual.result c.from_residual.ensures.1 in
    rw (p.1, p.2) (tells_refused _ c.check_trace.ensures c.in_err-k.was)

pub returns : goal.returns
returns c =
    tells_delivered (trace_good c.check_trace.ensures c.in_ok-k.was)
    c.write_part.ensures
