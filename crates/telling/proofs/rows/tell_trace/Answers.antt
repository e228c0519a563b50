-- `tell_trace` meets its contract.
use mathlib.Core.Path.{ap, sym}
use Rattle.telling.specs.Handing.{told_trace}
use Rattle.telling.proofs.rows.tell_trace.Goals as goal

pub returns-in-Ok : goal.returns-in-Ok
unfolding told_trace
returns-in-Ok c = ap told_trace (sym c.in-Ok.is)

pub returns-in-Err : goal.returns-in-Err
unfolding told_trace
returns-in-Err c = ap told_trace (sym c.in-Err.is)
