-- `list_tree` meets its contract.
use Rattle.rewriting.proofs.Holding.{stand_for}
use Rattle.alternative_listings.proofs.WritingCases.{own_lists, lists_fit_lem}
use Rattle.alternative_listings.proofs.list_tree.Goals as goal

pub list_all-requires : goal.list_all-requires
list_all-requires c = lists_fit_lem c.requires (stand_for c.alternatives_of-a.ensures c.lists.ensures)

pub returns : goal.returns
returns c =
    let e = c.lists.ensures in
    own_lists _ c.alternatives_of-a.ensures
    (rw (e.steps_are, e.tests_are, e.edges_are, e.operands_are) at c.list_all.ensures)
