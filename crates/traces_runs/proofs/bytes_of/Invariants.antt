-- `bytes_of` stays within the digits and what it fills.
use Prim.Native.Nat.{◌≤◌, ◌-◌}
use Rattle.traces_runs.proofs.bytes_of.Given as goal

abbrev pub invariant-loop-i : goal.invariant-loop-i
invariant-loop-i l = l.i ≤ 512
