-- `passes::tally` meets its contract. The loop's invariant: with what is left, `c` comes to the number.
use mathlib.Core.Path.{◌≡◌}
use Rattle.columns.proofs.Tallies.{Tallying}
use Rattle.columns.proofs.passes.tally.Given as goal

abbrev pub invariant-loop-part : goal.invariant-loop-part
invariant-loop-part l = (l.part-iterator.size ≡ 128) × Tallying l.v l.n l.c l.a l.part-iterator.rest.now
