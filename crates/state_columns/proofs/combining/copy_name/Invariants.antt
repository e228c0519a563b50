-- `combining::copy_name` meets its contract. The loop's invariant: the states so far are written.
use Rattle.state_columns.specs.Entries.{name_rows}
use Rattle.state_columns.proofs.Stating.{Stating}
use Rattle.state_columns.proofs.combining.copy_name.Given as goal

abbrev pub invariant-loop-i : goal.invariant-loop-i
invariant-loop-i l = Stating (name_rows l.b l.states l.names l.lo) l.n l.initial.parts l.o l.parts l.i
