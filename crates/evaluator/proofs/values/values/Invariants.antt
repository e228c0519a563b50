-- `values::values` meets its contract. The loop's invariant is Writing: the values at the rows before `i` are stored.
use Prim.Native.Nat.{◌-◌}
use Rattle.basics.specs.Words.{listed}
use Rattle.basics.proofs.Stores.{Writing}
use Rattle.evaluator.specs.Rows.{value_of}
use Rattle.evaluator.proofs.values.values.Given as goal

abbrev pub invariant-loop-i : goal.invariant-loop-i
invariant-loop-i l = Writing l.initial.out 0 (listed 0 l.n (value_of l.rules l.tree l.names l.states l.end)) l.out l.i
