-- `passes::put_numbers` meets its contract. The loop's invariant: the entries so far are written.
use lib.ListN.{get_or}
use Rattle.alf.specs.Windows.{numbered}
use Rattle.basics.specs.Words.{listed}
use Rattle.basics.proofs.Stores.{Writing}
use Rattle.columns.proofs.passes.put_numbers.Given as goal

abbrev pub invariant-loop-i : goal.invariant-loop-i
invariant-loop-i l = Writing l.initial.answers l.at (listed 0 l.n (λ j. numbered (get_or l.best j 0))) l.answers l.i
