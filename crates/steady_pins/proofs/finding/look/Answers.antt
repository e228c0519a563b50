-- `finding::look` meets its contract.
use Rattle.steady_pins.proofs.StepEntries.{looked}
use Rattle.steady_pins.proofs.finding.look.Goals as goal

pub returns : goal.returns
returns c = looked _ _ c.own-places.ensures c.moves-changing.ensures
