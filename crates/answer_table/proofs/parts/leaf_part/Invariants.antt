-- `parts::leaf_part` meets its contract. The loop's invariant: the windows from the rows before `a` are written.
use Prim.Native.Nat.{◌≤◌}
use Rattle.answer_table.specs.Tables.{entry, leaf_over_lem, Part}
use Rattle.answer_table.proofs.parts.leaf_part.Given as goal

abbrev pub invariant-loop-a : goal.invariant-loop-a
invariant-loop-a l = (l.a ≤ l.size) × Part (leaf_over_lem l.k (entry l.list)) l.base l.size l.a l.initial.table l.table
