-- `tell_changes` meets its contract.
use mathlib.Core.Path.{ap, sym}
use Rattle.telling.specs.Handing.{told_changes}
use Rattle.telling.proofs.rows.tell_changes.Goals as goal

pub returns-in-Ok : goal.returns-in-Ok
unfolding told_changes
returns-in-Ok c = ap told_changes (sym c.in-Ok.is)

pub returns-in-Err : goal.returns-in-Err
unfolding told_changes
returns-in-Err c = ap told_changes (sym c.in-Err.is)
