-- `settling::settle` meets its contract. The loop's invariant: the names so far are settled.
use Prim.Native.Nat.{◌≤◌}
use Rattle.steady_pins.proofs.SettledRows.{Settling}
use Rattle.steady_pins.proofs.settling.settle.Given as goal

abbrev pub invariant-loop-n : goal.invariant-loop-n
invariant-loop-n l =
    (l.n ≤ 32) × Settling l.changing l.before l.after l.rows l.many l.initial.pins l.pins l.n
