-- `dachsmond_read_expression` meets its contract.
use Rattle.telling.proofs.Handed.{handed}
use Rattle.dachsmond.proofs.texts.dachsmond_read_expression.Goals as goal

pub returns : goal.returns
returns c =
    let sort = c.sort_of.ensures in
    handed _ (rw sort at c.read_expression.ensures) c.tell_expression.ensures
