-- `matching::match_tree` meets its contract: what the lists hold is in use, and stands for the tree's alternatives.
use Rattle.rewriting.proofs.Holding.{stand_for}
use Rattle.matching_calls.proofs.ByAlternatives.{tree_date, tree_matches}
use Rattle.matching_calls.proofs.matching.match_tree.Goals as goal

pub date-requires : goal.date-requires
date-requires c =
    tree_date (stand_for c.alternatives_of-a.ensures c.lists-lists.ensures) c.requires c.match_row-found.ensures

pub returns : goal.returns
returns c =
    tree_matches (stand_for c.alternatives_of-a.ensures c.lists-lists.ensures) c.requires
    c.match_row-found.ensures c.date.ensures
