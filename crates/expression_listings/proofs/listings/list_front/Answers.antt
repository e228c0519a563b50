-- `list_front` meets its contract: the list is of 65,535 entries.
use Rattle.expression_listings.proofs.RowListings.{too_many}
use Rattle.expression_listings.proofs.listings.list_front.Goals as goal

pub returns-then-codes-n : goal.returns-then-codes-n
returns-then-codes-n c = too_many c.args.codes.now c.requires.codes_len c.if-codes-n.true c.refuse.ensures
