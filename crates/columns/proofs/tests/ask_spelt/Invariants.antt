-- `tests::ask_spelt` meets its contract. The loop's invariant: the answers so far are written, and the state before the
-- next event is known (`Through`).
use lib.ListN.{get_or}
use Rattle.basics.specs.Words.{listed}
use Rattle.basics.proofs.Stores.{Writing}
use Rattle.columns.specs.Columns.{looked_at}
use Rattle.columns.proofs.Looking.{Through}
use Rattle.columns.proofs.tests.ask_spelt.Given as goal

abbrev pub invariant-loop-i : goal.invariant-loop-i
invariant-loop-i l =
    Through l.spelt l.n l.before l.i × Writing l.initial.cols l.o (listed 0 l.n (looked_at l.tables l.base (λ j. get_or l.spelt j 0))) l.cols l.i
