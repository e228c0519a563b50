-- `bit_of` meets its contract: shifted right by i, the number is odd where bit i is set.
use mathlib.Core.Path.{refl}
use Rattle.row_lines.specs.Inner.{marked}
use Rattle.row_lines.proofs.marked.bit_of.Goals as goal

pub returns : goal.returns
unfolding marked
returns c = refl
