-- `is_over` meets its contract.
use Rattle.reader.proofs.Limiting.{over_told, within_told}
use Rattle.reader.proofs.is_over.Goals as goal

pub returns-in-None : goal.returns-in-None
returns-in-None c = over_told _ c.measure.ensures c.in-None.is

pub returns-in-Some : goal.returns-in-Some
returns-in-Some c = within_told _ c.measure.ensures c.in-Some.is
