-- `say_times` stays within the answers and ends: the measure is the number of rows left.
use Prim.Native.Nat.{◌≤◌}
use Rattle.event_report.proofs.shown.say_times.Given as goal

abbrev pub invariant-loop-i : goal.invariant-loop-i
invariant-loop-i l = l.i ≤ l.n
