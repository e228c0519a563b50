-- `start` meets its contract.
use Rattle.sorting.proofs.Stacks.{started}
use Rattle.sorting.proofs.sorts.start.Goals as goal

pub returns : goal.returns
returns c = started
