-- `matching::match_tree_all` meets its contract, as `match_tree` does.
use Rattle.rewriting.proofs.Holding.{stand_for}
use Rattle.matching_calls.proofs.ByAlternatives.{tree_marks, tree_fills}
use Rattle.matching_calls.proofs.matching.match_tree_all.Goals as goal

pub mark-requires : goal.mark-requires
mark-requires c =
    tree_marks (stand_for c.alternatives_of-a.ensures c.lists-lists.ensures) c.requires c.match_all.ensures

pub returns : goal.returns
returns c =
    tree_fills (stand_for c.alternatives_of-a.ensures c.lists-lists.ensures) c.requires c.match_all.ensures c.mark.ensures
