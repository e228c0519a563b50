-- `put_rows` meets its contract: the records of the first r rows are written, and q is behind them.
use mathlib.Core.Path.{◌≡◌}
use Prim.Native.Nat.{◌*◌, ◌≤◌}
use Rattle.basics.specs.Memory.{Put}
use Rattle.trace_format.specs.Format.{row_records, fewest_of}
use Rattle.trace_writer.proofs.write.put_rows.Given as goal

abbrev pub invariant-loop-r : goal.invariant-loop-r
invariant-loop-r l =
    (l.r ≤ l.n) × (l.from ≡ l.r * l.lists.k)
    × Put l.initial.out l.at
    (row_records l.lists.k (fewest_of l.lists.times.now) l.lists.times.now l.lists.states.now l.r) l.out l.q
