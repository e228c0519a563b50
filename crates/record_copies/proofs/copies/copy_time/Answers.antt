-- `copy_time` meets its contract.
use mathlib.Core.Path.{refl}
use Rattle.record_copies.proofs.copies.copy_time.Goals as goal

pub returns : goal.returns
returns c = record { time = rw c.time_at.ensures; there = refl }
