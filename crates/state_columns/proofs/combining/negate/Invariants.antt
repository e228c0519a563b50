-- `combining::negate` meets its contract. The loop's invariant: the states so far are written.
use Rattle.state_columns.specs.Entries.{negated}
use Rattle.state_columns.proofs.Stating.{Stating}
use Rattle.state_columns.proofs.combining.negate.Given as goal

abbrev pub invariant-loop-i : goal.invariant-loop-i
invariant-loop-i l = Stating (negated l.initial.parts l.o) l.n l.initial.parts l.o l.parts l.i
