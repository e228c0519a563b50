-- `tables::put_tables` meets its contract. The loop's invariant: the tables so far are there.
use Rattle.columns.proofs.Tabling.{Tabling}
use Rattle.columns.proofs.tables.put_tables.Given as goal

abbrev pub invariant-loop-c : goal.invariant-loop-c
invariant-loop-c l = Tabling l.edges l.n l.initial.tables l.tables l.c
