-- `queues::keep` meets its contract.
use mathlib.Core.Path.{refl}
use Rattle.queue.proofs.Keeping.{trace_fits, rest_fits, keeps_all, keeps_last}
use Rattle.queue.proofs.queues.keep.Goals as goal

pub store-states-requires : goal.store-states-requires
store-states-requires c = trace_fits c.requires c.if-kept-k.true

pub returns-then-kept-k : goal.returns-then-kept-k
returns-then-kept-k c = keeps_all c.requires c.if-kept-k.true refl c.store-states.ensures

pub store-states-requires-2 : goal.store-states-requires-2
store-states-requires-2 c = rest_fits c.requires

pub returns : goal.returns
returns c = keeps_last c.requires c.if-kept-k.false refl c.store-states-2.ensures
