-- `list_tree` meets its contract.
use Rattle.expression_listings.proofs.RowListings.{accepted_as, pattern_listed}
use Rattle.expression_listings.proofs.listings.list_tree.Goals as goal

pub list_boolean-requires : goal.list_boolean-requires
list_boolean-requires c = accepted_as c.in-Boolean.is c.requires

pub returns-in-Vector : goal.returns-in-Vector
returns-in-Vector c =
    pattern_listed
    (accepted_as c.in-Vector.is c.requires)
    c.list.ensures
