-- `tests::ask_name` meets its contract. The loop's invariant: the answers so far are written, and the state before the
-- next event is known (`Along`).
use Rattle.basics.specs.Words.{listed}
use Rattle.basics.proofs.Stores.{Writing}
use Rattle.columns.specs.Columns.{looked_at, name_from}
use Rattle.columns.proofs.Looking.{Along}
use Rattle.columns.proofs.tests.ask_name.Given as goal

abbrev pub invariant-loop-i : goal.invariant-loop-i
invariant-loop-i l =
    Along l.states l.names l.at l.n l.p l.before l.i
    × Writing l.initial.cols l.o (listed 0 l.n (looked_at l.tables l.base (name_from l.states l.names l.at))) l.cols l.i
