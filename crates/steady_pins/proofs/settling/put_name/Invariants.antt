-- `settling::put_name` meets its contract. The loop's invariant: the place stands in the rows so far.
use Prim.Native.Nat.{◌≤◌}
use Rattle.steady_pins.specs.Walking.{Column}
use Rattle.steady_pins.proofs.settling.put_name.Given as goal

abbrev pub invariant-loop-k : goal.invariant-loop-k
invariant-loop-k l = (l.k ≤ l.many) × Column l.rows l.k l.n l.place l.initial.pins l.pins
