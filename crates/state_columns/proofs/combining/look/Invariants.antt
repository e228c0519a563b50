-- `combining::look` meets its contract. The loop's invariant: the states so far are written.
use Rattle.state_columns.specs.Entries.{looked}
use Rattle.state_columns.proofs.Stating.{Stating}
use Rattle.state_columns.proofs.combining.look.Given as goal

abbrev pub invariant-loop-i : goal.invariant-loop-i
invariant-loop-i l = Stating (looked l.table l.initial.parts l.o l.p) l.n l.initial.parts l.o l.parts l.i
