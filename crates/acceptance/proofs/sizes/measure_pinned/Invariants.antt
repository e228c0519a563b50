-- `sizes::measure_pinned` meets its contract. The loop's invariant: the greatest of the alternatives passed.
use Prim.Native.Nat.{◌≤◌}
use Rattle.acceptance.proofs.MeasuredPins.{MeasuringAt}
use Rattle.acceptance.proofs.sizes.measure_pinned.Given as goal

abbrev pub invariant-loop-t : goal.invariant-loop-t
invariant-loop-t l =
    (l.t ≤ l.n) × MeasuringAt l.pins l.tree l.names l.end l.t l.steps l.tests
