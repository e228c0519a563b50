-- `sort_at` meets its contract.
use mathlib.Core.Path.{refl}
use Rattle.sorting.specs.Passes.{sort_at}
use Rattle.sorting.proofs.sorts.sort_at.Goals as goal

pub returns : goal.returns
unfolding sort_at
returns c = refl
