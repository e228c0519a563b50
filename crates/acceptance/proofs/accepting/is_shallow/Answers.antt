-- `accepting::is_shallow` meets its contract.
use Rattle.acceptance.proofs.Acceptance.{shallow_decided}
use Rattle.acceptance.proofs.accepting.is_shallow.Goals as goal

pub returns : goal.returns
returns c = shallow_decided _ _ c.depth_of.ensures
