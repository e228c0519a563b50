-- `no_places` gives 4,096 zeros.
use mathlib.Core.Path.{refl}
use Rattle.tokens.specs.Tokenizing.{zeros}
use Rattle.tokens.proofs.no_places.Goals as goal

pub returns : goal.returns
unfolding zeros
returns c = refl
