-- `queue_of` meets its contract.
use mathlib.Core.Path.{refl}
use Rattle.telling.specs.Matching.{queue_of_lem}
use Rattle.telling.proofs.matching.queue_of.Goals as goal

pub returns : goal.returns
unfolding queue_of_lem
returns c = refl
