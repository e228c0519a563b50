-- `list` stays within the lists.
use Prim.Native.Nat.{◌≤◌, ◌-◌}
use Rattle.tokens_runs.proofs.list.Given as goal

abbrev pub invariant-loop-i : goal.invariant-loop-i
invariant-loop-i l = l.i ≤ l.count
