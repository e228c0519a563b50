-- `sizes::pin` meets its contract.
use Rattle.acceptance.proofs.CappedSizes.{with_pins}
use Rattle.acceptance.proofs.sizes.pin.Goals as goal

pub returns : goal.returns
returns c = with_pins c.cap.ensures
