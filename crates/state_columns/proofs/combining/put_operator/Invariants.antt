-- `combining::put_operator` meets its contract. The loop's invariant: the entries so far are written.
use Rattle.state_columns.specs.Entries.{operator_at}
use Rattle.state_columns.proofs.Stating.{Stating}
use Rattle.state_columns.proofs.combining.put_operator.Given as goal

abbrev pub invariant-loop-q : goal.invariant-loop-q
invariant-loop-q l = Stating (operator_at l.b) 64 l.initial.table 0 l.table l.q
