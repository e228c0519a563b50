-- `passes::put_tries` meets its contract. The loop's invariant: the entries so far are written.
use lib.ListN.{get_or}
use Rattle.basics.specs.Words.{listed}
use Rattle.basics.proofs.Stores.{Writing}
use Rattle.columns.proofs.passes.put_tries.Given as goal

abbrev pub invariant-loop-i : goal.invariant-loop-i
invariant-loop-i l = Writing l.initial.tried l.at (listed 0 l.n (λ j. get_or l.tries j 0)) l.tried l.i
