-- `millionths_of` meets its contract.
use mathlib.Core.Path.{refl}
use Rattle.figures.specs.Share.{millionths}
use Rattle.figures.proofs.shares.millionths_of.Goals as goal

pub returns : goal.returns
unfolding millionths
returns c = refl
