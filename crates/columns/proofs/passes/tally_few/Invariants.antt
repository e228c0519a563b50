-- `passes::tally_few` meets its contract. The loop's invariant: those of the entries so far are counted.
use mathlib.Core.Path.{◌≡◌}
use lib.Dec.{eqb}
use lib.ListN.{get_or}
use Rattle.basics.specs.Words.{count}
use Rattle.columns.proofs.passes.tally_few.Given as goal

abbrev pub invariant-loop-x : goal.invariant-loop-x
invariant-loop-x l = l.c ≡ count l.x-index (λ j. eqb (get_or l.a j 0) l.v)
