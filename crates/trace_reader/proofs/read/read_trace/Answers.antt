-- `read_trace` meets its contract.
use Rattle.std.proofs.lemmas.Result.{err_from_is_err_and}
use Rattle.trace_reader.specs.Checking.{Checked}
use Rattle.trace_reader.proofs.ReadOutcomes.{refused}
use Rattle.trace_reader.proofs.read.read_trace.Goals as goal

pub fill-requires : goal.fill-requires
unfolding Checked
fill-requires c = c.in_ok-size.ensures

pub returns-in_err-size : goal.returns-in_err-size
returns-in_err-size c =
    let p = err_from_is_err_and c.from_residual.result c.from_residual.ensures.1 in
    rw (p.1, p.2) (refused _ _ _ _ _ c.in_err-size.ensures)
