-- `pushing::push_tree` meets its contract: what the lists hold is in use, and stands for the tree's alternatives.
use Rattle.rewriting.proofs.Holding.{stand_for}
use Rattle.queue_calls.proofs.ByAlternatives.{tree_pushes}
use Rattle.queue_calls.proofs.Pushes.{push_asked}
use Rattle.queue_calls.proofs.pushing.push_tree.Goals as goal

pub push-requires : goal.push-requires
push-requires c = push_asked c.requires (stand_for c.alternatives_of-a.ensures c.lists-lists.ensures)

pub returns : goal.returns
returns c = tree_pushes (stand_for c.alternatives_of-a.ensures c.lists-lists.ensures) c.push.ensures
