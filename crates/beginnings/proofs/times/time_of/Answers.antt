-- `times::time_of` meets its contract.
use Rattle.std.proofs.Common.{ap, sym}
use Rattle.alf.specs.Beginnings.{time_of_lem}
use Rattle.beginnings.proofs.times.time_of.Goals as goal

pub returns-in-Some : goal.returns-in-Some
unfolding time_of_lem
returns-in-Some c = ap time_of_lem (sym c.in-Some.is)

pub returns-in-None : goal.returns-in-None
unfolding time_of_lem
returns-in-None c = ap time_of_lem (sym c.in-None.is)
