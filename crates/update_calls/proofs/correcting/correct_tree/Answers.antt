-- `correcting::correct_tree` meets its contract: what the lists hold is in use, and stands for the tree's
-- alternatives.
use Rattle.rewriting.proofs.Holding.{stand_for}
use Rattle.update_calls.proofs.ByAlternatives.{tree_corrects}
use Rattle.update_calls.proofs.correcting.correct_tree.Goals as goal

pub returns : goal.returns
returns c = tree_corrects (stand_for c.alternatives_of-a.ensures c.lists-lists.ensures) c.correct.ensures
