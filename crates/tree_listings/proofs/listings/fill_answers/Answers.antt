-- `fill_answers` meets its contract: what the lists hold is in use, and stands for the tree's
-- alternatives.
use Rattle.rewriting.proofs.Holding.{stand_for}
use Rattle.tree_listings.proofs.TreeTexts.{answers_asked, answers_filled}
use Rattle.tree_listings.proofs.listings.fill_answers.Goals as goal

pub rewrite-requires : goal.rewrite-requires
rewrite-requires c = answers_asked c.requires (stand_for c.alternatives_of-a.ensures c.lists-lists.ensures)

pub returns : goal.returns
returns c =
    answers_filled c.requires (stand_for c.alternatives_of-a.ensures c.lists-lists.ensures)
    c.rewrite.ensures
