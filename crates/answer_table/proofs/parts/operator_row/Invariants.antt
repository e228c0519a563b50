-- `parts::operator_row` meets its contract. The loop's invariant: the windows up to row `j` are written.
use Prim.Native.Nat.{◌≤◌}
use Rattle.answer_table.specs.Tables.{stored, operated, Row}
use Rattle.answer_table.proofs.parts.operator_row.Given as goal

abbrev pub invariant-loop-j : goal.invariant-loop-j
invariant-loop-j l =
    (l.a ≤ l.j) × (l.j ≤ l.size) × Row (operated l.k (stored l.initial.table l.p) (stored l.initial.table l.q)) l.base l.a l.j l.initial.table l.table
