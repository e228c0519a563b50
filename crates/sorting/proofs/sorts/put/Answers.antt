-- `put` meets its contract.
use Rattle.sorting.proofs.Stacks.{put_puts}
use Rattle.sorting.proofs.sorts.put.Goals as goal

pub returns : goal.returns
returns c = put_puts _ _ _ _ c.requires
