-- `walking::pass` meets its contract. The loop's invariant: with the tests of the steps still to be passed, `at` comes
-- to the end.
use mathlib.Core.Path.{◌≡◌}
use Prim.Native.Nat.{◌+◌}
use lib.ListN.{take, drop}
use Rattle.alternatives.specs.InMemory.{sum}
use Rattle.alternatives.proofs.walking.pass.Given as goal

abbrev pub invariant-loop-many : goal.invariant-loop-many
invariant-loop-many l = l.at + sum (drop l.many-index l.many-items) ≡ l.t + sum (take l.n (drop l.s l.tests))
