-- `row_of` gives a row of the table: the code's table is the same list by computation.
use mathlib.Core.Path.{refl}
use Rattle.token_steps.specs.Spelling.{spellings}
use Rattle.token_steps.proofs.spellings.row_of.Goals as goal

pub returns : goal.returns
unfolding spellings
returns c = refl
