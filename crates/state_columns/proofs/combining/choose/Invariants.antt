-- `combining::choose` meets its contract. The loop's invariant: the states so far are written.
use Rattle.state_columns.specs.Entries.{chosen_from}
use Rattle.state_columns.proofs.Stating.{Stating}
use Rattle.state_columns.proofs.combining.choose.Given as goal

abbrev pub invariant-loop-i : goal.invariant-loop-i
invariant-loop-i l = Stating (chosen_from l.rules l.a l.b l.initial.parts l.o l.p l.q) l.n l.initial.parts l.o l.parts l.i
