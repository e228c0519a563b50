-- `put_rows` meets its contract: the lines of the rows before row i are written.
use Prim.Native.Nat.{◌+◌}
use lib.ListN.{get_or}
use Rattle.row_lines.specs.Lines.{row_line}
use Rattle.row_lines.proofs.InTurn.{Written}
use Rattle.row_lines.proofs.rows.put_rows.Given as goal

abbrev pub invariant-loop-i : goal.invariant-loop-i
invariant-loop-i l =
    Written (λ r. row_line l.lists.names.now l.lists.k l.lists.states.now (get_or l.lists.times.now (l.first + r) 0)
    (l.first + r)) l.many l.initial.out l.at l.i l.out l.p
