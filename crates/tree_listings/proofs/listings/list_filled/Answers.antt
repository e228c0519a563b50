-- `list_filled` meets its contract.
use Rattle.tree_listings.proofs.TreeTexts.{answers_listable, answers_listed}
use Rattle.tree_listings.proofs.listings.list_filled.Goals as goal

pub write_listing-requires : goal.write_listing-requires
write_listing-requires c = answers_listable _ c.args.times.now c.requires c.fill_answers.ensures

pub returns : goal.returns
returns c = answers_listed _ c.args.times.now c.requires c.fill_answers.ensures c.write_listing.ensures
