-- `tests::put_columns` meets its contract. The loop's invariant: the columns so far are there.
use Rattle.columns.proofs.Asking.{Lining}
use Rattle.columns.proofs.tests.put_columns.Given as goal

abbrev pub invariant-loop-c : goal.invariant-loop-c
invariant-loop-c l =
    Lining l.rules l.tree l.names l.states l.ends l.many l.lo l.n l.tables l.initial.cols l.cols l.c
