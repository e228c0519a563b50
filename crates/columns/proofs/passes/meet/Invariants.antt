-- `passes::meet` meets its contract. The loop's invariant: the entries so far are written.
use Prim.Native.Nat.{◌+◌, min}
use lib.ListN.{get_or}
use Rattle.basics.specs.Words.{listed}
use Rattle.basics.proofs.Stores.{Writing}
use Rattle.columns.proofs.passes.meet.Given as goal

abbrev pub invariant-loop-i : goal.invariant-loop-i
invariant-loop-i l = Writing l.initial.acc 0 (listed 0 l.n (λ j. min (get_or l.initial.acc j 0) (get_or l.cols (l.o + j) 0))) l.acc l.i
