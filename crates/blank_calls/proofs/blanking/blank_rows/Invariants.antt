-- `blanking::blank_rows` meets its contract.
use Rattle.blank_calls.proofs.Rows.{Going}
use Rattle.blank_calls.proofs.blanking.blank_rows.Given as goal

abbrev pub invariant-loop-r : goal.invariant-loop-r
invariant-loop-r l = Going l.n l.initial.states l.kept l.states l.at l.r
