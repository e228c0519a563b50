-- `rows_size` meets its contract: the sizes of the first r rows are added up.
use Prim.Native.Nat.{◌≤◌}
use Rattle.trace_writer.specs.Putting.{RowsSize}
use Rattle.trace_writer.proofs.write.rows_size.Given as goal

abbrev pub invariant-loop-r : goal.invariant-loop-r
invariant-loop-r l = (l.r ≤ l.n) × RowsSize l.k l.times l.r l.size
