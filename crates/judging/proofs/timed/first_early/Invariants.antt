-- `timed::first_early` meets its contract. The loop's invariant is Looking: the rows before i are above the last.
use Rattle.judging.proofs.TimedChecks.{Looking}
use Rattle.judging.proofs.timed.first_early.Given as goal

abbrev pub invariant-loop-i : goal.invariant-loop-i
invariant-loop-i l = Looking l.times l.i
