-- `blanking::blank_row` meets its contract.
use Rattle.blank_calls.proofs.Rows.{RowGoing}
use Rattle.blank_calls.proofs.blanking.blank_row.Given as goal

abbrev pub invariant-loop-i : goal.invariant-loop-i
invariant-loop-i l = RowGoing l.initial.states l.at l.kept l.states l.i
