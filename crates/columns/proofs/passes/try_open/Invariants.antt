-- `passes::try_open` meets its contract. The loop's invariant: the entries so far are written.
use Rattle.std.specs.Prelude.{if◌then◌else◌}
use Prim.Native.Nat.{◌+◌}
use lib.Dec.{eqb}
use lib.ListN.{get_or}
use Rattle.basics.specs.Words.{listed}
use Rattle.basics.proofs.Stores.{Writing}
use Rattle.columns.proofs.passes.try_open.Given as goal

abbrev pub invariant-loop-i : goal.invariant-loop-i
invariant-loop-i l =
    Writing l.initial.tries 0 (listed 0 l.n (λ j. get_or l.initial.tries j 0 + (if eqb (get_or l.best j 0) 2 then 0 else 1))) l.tries l.i
