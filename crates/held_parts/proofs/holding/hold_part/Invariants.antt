-- `holding::hold_part` meets its contract. The loop's invariant: the pins among the first `k` entries are held.
use Prim.Native.Nat.{◌-◌, ◌*◌, ◌≤◌}
use Rattle.held_parts.proofs.Pinning.{Pinning}
use Rattle.held_parts.proofs.holding.hold_part.Given as goal

abbrev pub invariant-loop-k : goal.invariant-loop-k
invariant-loop-k l =
    (l.k ≤ 32) × Pinning l.rules l.tree l.pins l.end l.states l.names l.first l.k ((l.end - 1) * 256) l.size l.initial.table l.table
