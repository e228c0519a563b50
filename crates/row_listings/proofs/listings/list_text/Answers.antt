-- `list_text` meets its contract.
use Rattle.row_listings.specs.Listings.{ListsAs}
use Rattle.row_listings.proofs.listings.list_text.Goals as goal

pub returns : goal.returns
unfolding ListsAs
returns c = c.list_given.ensures
