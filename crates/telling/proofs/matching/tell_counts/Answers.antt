-- `tell_counts` meets its contract.
use mathlib.Core.Path.{ap, sym}
use Rattle.telling.specs.Matching.{told_counts}
use Rattle.telling.proofs.matching.tell_counts.Goals as goal

pub returns-in-Ok : goal.returns-in-Ok
unfolding told_counts
returns-in-Ok c = ap told_counts (sym c.in-Ok.is)

pub returns-in-Err : goal.returns-in-Err
unfolding told_counts
returns-in-Err c = ap told_counts (sym c.in-Err.is)
