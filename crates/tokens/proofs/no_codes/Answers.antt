-- `no_codes` gives 4,096 zeros.
use mathlib.Core.Path.{refl}
use Rattle.tokens.specs.Tokenizing.{zeros}
use Rattle.tokens.proofs.no_codes.Goals as goal

pub returns : goal.returns
unfolding zeros
returns c = refl
