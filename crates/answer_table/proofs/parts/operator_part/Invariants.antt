-- `parts::operator_part` meets its contract. The loop's invariant: the windows from the rows before `a` are written.
use Prim.Native.Nat.{◌≤◌}
use Rattle.answer_table.specs.Tables.{stored, operated, Part}
use Rattle.answer_table.proofs.parts.operator_part.Given as goal

abbrev pub invariant-loop-a : goal.invariant-loop-a
invariant-loop-a l =
    (l.a ≤ l.size) × Part (operated l.k (stored l.initial.table l.p) (stored l.initial.table l.q)) l.base l.size l.a l.initial.table l.table
