-- `parts::leaf_row` meets its contract. The loop's invariant: the windows up to row `j` are written,
-- and `x` is a condition's answer so far.
use Prim.Native.Nat.{◌≤◌}
use Rattle.answer_table.specs.Tables.{entry, leaf_over_lem, SoFar, Row}
use Rattle.answer_table.proofs.parts.leaf_row.Given as goal

abbrev pub invariant-loop-j : goal.invariant-loop-j
invariant-loop-j l =
    (l.a ≤ l.j) × (l.j ≤ l.size) × Row (leaf_over_lem l.k (entry l.list)) l.base l.a l.j l.initial.table l.table × SoFar l.k (entry l.list) l.a l.j l.x
