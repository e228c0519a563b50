-- `sort_of` meets its contract.
use mathlib.Core.Path.{ap, sym}
use Rattle.telling.specs.Handing.{sort_of_lem}
use Rattle.telling.proofs.texts.sort_of.Goals as goal

pub returns-then-vector : goal.returns-then-vector
unfolding sort_of_lem
returns-then-vector c = ap sort_of_lem (sym c.if-vector.true)

pub returns-else-vector : goal.returns-else-vector
unfolding sort_of_lem
returns-else-vector c = ap sort_of_lem (sym c.if-vector.false)
