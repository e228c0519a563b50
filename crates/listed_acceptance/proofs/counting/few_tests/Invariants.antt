-- `counting::few_tests` meets its contract.
use mathlib.Core.Path.{◌≡◌}
use Prim.Native.Nat.{◌≤◌, ◌+◌}
use lib.ListN.{drop, take}
use Rattle.alternatives.specs.InMemory.{sum}
use Rattle.alternatives.proofs.Cuts.{part}
use Rattle.listed_acceptance.proofs.counting.few_tests.Given as goal

abbrev pub invariant-loop-i : goal.invariant-loop-i
invariant-loop-i l =
    (l.i ≤ l.n) × (l.left + sum (take l.n (drop l.s l.tests)) ≡ 64 + sum (part l.tests l.s l.n l.i))
