-- `times::date` meets its contract.
use mathlib.Core.Path.{refl}
use Rattle.beginnings.proofs.Marking.{found_asked}
use Rattle.beginnings.proofs.times.date.Goals as goal

pub began_at-began-requires : goal.began_at-began-requires
began_at-began-requires c = found_asked c.requires c.number_of.ensures

pub returns : goal.returns
returns c =
    record { same = refl; count = refl; since = rw c.number_of.ensures at c.began_at-began.ensures }
