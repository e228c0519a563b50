-- `passes::join` meets its contract. The loop's invariant: the entries so far are written.
use Prim.Native.Nat.{max}
use lib.ListN.{get_or}
use Rattle.basics.specs.Words.{listed}
use Rattle.basics.proofs.Stores.{Writing}
use Rattle.columns.proofs.passes.join.Given as goal

abbrev pub invariant-loop-i : goal.invariant-loop-i
invariant-loop-i l = Writing l.initial.best 0 (listed 0 l.n (λ j. max (get_or l.initial.best j 0) (get_or l.acc j 0))) l.best l.i
