-- `put_slot` meets its contract.
use Rattle.record_copies.proofs.Copying.{slot_put}
use Rattle.record_copies.proofs.copies.put_slot.Goals as goal

pub returns : goal.returns
returns c = slot_put c.requires.few c.put-named.ensures c.clear.ensures
