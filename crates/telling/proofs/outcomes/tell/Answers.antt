-- `tell` meets its contract.
use mathlib.Core.Path.{ap, sym}
use Rattle.telling.specs.Handing.{told}
use Rattle.telling.proofs.outcomes.tell.Goals as goal

pub returns-in-Ok : goal.returns-in-Ok
unfolding told
returns-in-Ok c = ap told (sym c.in-Ok.is)

pub returns-in-Err : goal.returns-in-Err
unfolding told
returns-in-Err c = ap told (sym c.in-Err.is)
