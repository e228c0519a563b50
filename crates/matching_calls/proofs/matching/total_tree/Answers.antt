-- `matching::total_tree` meets its contract, as `match_tree` does.
use Rattle.rewriting.proofs.Holding.{stand_for}
use Rattle.matching_calls.proofs.ByAlternatives.{tree_totals}
use Rattle.matching_calls.proofs.matching.total_tree.Goals as goal

pub returns : goal.returns
returns c =
    tree_totals (stand_for c.alternatives_of-a.ensures c.lists-lists.ensures) c.args.states.now
    c.totals.ensures
