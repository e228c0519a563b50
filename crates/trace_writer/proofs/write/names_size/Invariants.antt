-- `names_size` meets its contract.
use Prim.Native.Nat.{◌≤◌}
use Rattle.trace_writer.specs.Putting.{NamesSize}
use Rattle.trace_writer.proofs.write.names_size.Given as goal

abbrev pub invariant-loop-i : goal.invariant-loop-i
invariant-loop-i l = (l.i ≤ l.k) × NamesSize l.names l.i l.size
