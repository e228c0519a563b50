-- `dachsmond_table_refused` meets its contract.
use Rattle.telling.proofs.Handed.{handed}
use Rattle.dachsmond.proofs.listings.dachsmond_table_refused.Goals as goal

pub returns : goal.returns
returns c = handed _ (rw c.refusal_of.ensures at c.write_refused.ensures) c.tell.ensures
