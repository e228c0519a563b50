-- `pins::put_pins` meets its contract. The loop's invariant: the tests of the entries passed are written.
use Rattle.step_tests.proofs.PinPuts.{Pinning}
use Rattle.step_tests.proofs.pins.put_pins.Given as goal

abbrev pub invariant-loop-k : goal.invariant-loop-k
invariant-loop-k l =
    Pinning l.pins l.end l.n l.initial.edges l.initial.operands l.from l.k l.at l.edges l.operands
