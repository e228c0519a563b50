-- `rows_size` meets its contract: the lines of the rows before row i are measured.
use Prim.Native.Nat.{◌+◌}
use lib.ListN.{get_or}
use Rattle.row_lines.specs.Lines.{row_line}
use Rattle.row_lines.proofs.InTurn.{Measured}
use Rattle.row_lines.proofs.rows.rows_size.Given as goal

abbrev pub invariant-loop-i : goal.invariant-loop-i
invariant-loop-i l =
    Measured (λ r. row_line l.lists.names.now l.lists.k l.lists.states.now (get_or l.lists.times.now (l.first + r) 0)
    (l.first + r)) l.many 1162 l.i l.size
