-- `holding::hold_list` meets its contract. The loop's invariant: the windows that end at the rows up to `b` are held.
use Prim.Native.Nat.{◌≤◌}
use Rattle.held_parts.proofs.Clearing.{Held}
use Rattle.held_parts.proofs.holding.hold_list.Given as goal

abbrev pub invariant-loop-b : goal.invariant-loop-b
invariant-loop-b l = (l.b ≤ l.size) × Held l.list l.b l.base l.size l.initial.table l.table
