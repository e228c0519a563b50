-- `queues::store` meets its contract.
use Rattle.basics.proofs.Stores.{put_placed}
use borrow.Author.Rules.{rules}
use Rattle.queue.proofs.queues.store.Goals as goal

pub returns : goal.returns
returns c = put_placed c.put.ensures (search rules)
