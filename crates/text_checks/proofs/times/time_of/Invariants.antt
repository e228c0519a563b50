-- `time_of` meets its contract.
use Rattle.text_checks.proofs.TimeWords.{Timing}
use Rattle.text_checks.proofs.times.time_of.Given as goal

abbrev pub invariant-loop-b : goal.invariant-loop-b
invariant-loop-b l = Timing l.word l.n l.b-index
