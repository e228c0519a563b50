-- `list_all` meets its contract.
use borrow.Author.Rules.{rules}
use Rattle.alternative_listings.proofs.WritingCases.{reportable, noted_all, own_notes}
use Rattle.alternative_listings.proofs.list_all.Goals as goal

pub flag_lists-requires : goal.flag_lists-requires
flag_lists-requires c = reportable c.requires _ (search rules)

pub deliver-requires : goal.deliver-requires
deliver-requires c = noted_all c.requires c.flag_lists.ensures

pub returns : goal.returns
returns c = own_notes _ c.flag_lists.ensures c.deliver.ensures
