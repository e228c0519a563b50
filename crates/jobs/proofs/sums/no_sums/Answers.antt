-- `sums::no_sums` meets its contract.
use Rattle.jobs.specs.Sums.{no_sums}
use Rattle.jobs.proofs.sums.no_sums.Goals as goal

pub returns : goal.returns
unfolding no_sums
returns c = λ i. record { yes = 0; unknown = 0; no = 0; patterns = 0; events = c.events_of.ensures i }
