-- `check_rows` meets its contract.
use mathlib.Core.Path.{◌≡◌}
use Prim.Native.Nat.{◌+◌, ◌*◌, ◌≤◌}
use Rattle.alf.specs.Refusals.{Passed}
use Rattle.trace_writer.specs.Writing.{rows_order}
use Rattle.trace_writer.proofs.checks.check_rows.Given as goal

abbrev pub invariant-loop-i : goal.invariant-loop-i
invariant-loop-i l =
    (l.i ≤ l.many) × (l.from ≡ (l.first + l.i) * l.k) × Passed (rows_order l.k l.times l.states l.first l.i)
