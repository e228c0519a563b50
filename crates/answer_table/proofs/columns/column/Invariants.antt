-- `columns::column` meets its contract. The loop's invariant: the states at the rows passed are in the list.
use Prim.Native.Nat.{◌+◌, ◌≤◌}
use Rattle.evaluator.specs.Rows.{state_of}
use Rattle.answer_table.proofs.Cells.{States}
use Rattle.answer_table.proofs.columns.column.Given as goal

abbrev pub invariant-loop-i : goal.invariant-loop-i
invariant-loop-i l =
    (l.i ≤ l.size + 1) × States (λ j. state_of l.rules l.tree l.names l.states l.end (l.first + j)) l.i l.list
