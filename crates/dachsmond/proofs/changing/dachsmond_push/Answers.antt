-- `dachsmond_push` meets its contract.
use Rattle.telling.proofs.Handed.{handed}
use Rattle.dachsmond.proofs.changing.dachsmond_push.Goals as goal

pub returns : goal.returns
returns c =
    let queue = c.queue_of-old.ensures in
    handed _ (rw queue at c.push-p.ensures) c.tell_push.ensures
