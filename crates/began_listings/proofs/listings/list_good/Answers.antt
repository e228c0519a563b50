-- `list_good` meets its contract: what the lists hold is in use, and stands for the tree's alternatives.
use Rattle.rewriting.proofs.Holding.{stand_for}
use Rattle.began_listings.proofs.BeganTexts.{tree_asked, tree_listed}
use Rattle.began_listings.proofs.listings.list_good.Goals as goal

pub list_rows-requires : goal.list_rows-requires
list_rows-requires c = tree_asked (stand_for c.alternatives_of-a.ensures c.lists-lists.ensures) _ _ c.requires

pub returns : goal.returns
returns c = tree_listed (stand_for c.alternatives_of-a.ensures c.lists-lists.ensures) _ _ c.list_rows.ensures
