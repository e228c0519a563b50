-- `accepting::is_small` meets its contract.
use Rattle.acceptance.proofs.Acceptance.{small_decided}
use Rattle.acceptance.proofs.accepting.is_small.Goals as goal

pub returns : goal.returns
returns c = rw c.is_some.ensures (small_decided _ _ c.measure.ensures)
