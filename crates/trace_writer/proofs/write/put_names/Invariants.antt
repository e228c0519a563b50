-- `put_names` meets its contract: the records of the first i names are written, and `at` is behind them.
use Prim.Native.Nat.{◌≤◌}
use Rattle.basics.specs.Memory.{Put}
use Rattle.trace_format.specs.Format.{name_records}
use Rattle.trace_writer.proofs.write.put_names.Given as goal

abbrev pub invariant-loop-i : goal.invariant-loop-i
invariant-loop-i l = (l.i ≤ l.k) × Put l.initial.out 0 (name_records l.names l.i) l.out l.at
