-- `limits::sizes::hold` meets its contract.
use Rattle.acceptance.proofs.CappedSizes.{held}
use Rattle.acceptance.proofs.sizes.hold.Goals as goal

pub returns : goal.returns
returns c = held c.cap.ensures
