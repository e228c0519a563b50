-- `windows` ends: the measure is the number of rows left.
use Prim.Native.Nat.{◌≤◌}
use Rattle.event_report.proofs.shown.windows.Given as goal

abbrev pub invariant-loop-i : goal.invariant-loop-i
invariant-loop-i l = l.i ≤ l.n
