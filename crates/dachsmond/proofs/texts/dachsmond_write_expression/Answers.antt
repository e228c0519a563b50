-- `dachsmond_write_expression` meets its contract.
use Rattle.telling.proofs.Handed.{handed}
use Rattle.dachsmond.proofs.texts.dachsmond_write_expression.Goals as goal

pub returns : goal.returns
returns c = handed _ (rw c.sort_of.ensures at c.write_expression.ensures) c.tell.ensures
