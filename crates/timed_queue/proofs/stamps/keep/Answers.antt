-- `stamps::keep` meets its contract.
use Rattle.timed_queue.proofs.Keeping.{keep_all, keep_last}
use Rattle.timed_queue.proofs.stamps.keep.Goals as goal

pub returns-then-kept-k : goal.returns-then-kept-k
returns-then-kept-k c = keep_all c.requires c.if-kept-k.true c.store.ensures

pub returns : goal.returns
returns c = keep_last c.requires c.if-kept-k.false c.store-2.ensures
