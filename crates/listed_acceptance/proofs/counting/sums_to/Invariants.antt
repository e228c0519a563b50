-- `counting::sums_to` meets its contract.
use mathlib.Core.Path.{◌≡◌}
use Prim.Native.Nat.{◌≤◌, ◌+◌}
use lib.ListN.{length, drop}
use Rattle.alternatives.specs.InMemory.{sum}
use Rattle.listed_acceptance.proofs.counting.sums_to.Given as goal

abbrev pub invariant-loop-i : goal.invariant-loop-i
invariant-loop-i l = (l.i ≤ length l.list) × (l.left + sum l.list ≡ l.want + sum (drop l.i l.list))
