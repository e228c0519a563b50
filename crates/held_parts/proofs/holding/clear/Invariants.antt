-- `holding::clear` meets its contract. The loop's invariant: the windows from the rows before `a` are cleared.
use Prim.Native.Nat.{◌≤◌}
use Rattle.held_parts.proofs.Clearing.{Ended}
use Rattle.held_parts.proofs.holding.clear.Given as goal

abbrev pub invariant-loop-a : goal.invariant-loop-a
invariant-loop-a l = (l.a ≤ l.b) × Ended l.b l.a l.base l.initial.table l.table
