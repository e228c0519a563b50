-- `counting::are_stepped` meets its contract.
use Prim.Native.Nat.{◌≤◌}
use lib.ListN.{length}
use Rattle.listed_acceptance.specs.Lists.{Stepped}
use Rattle.listed_acceptance.proofs.Each.{Upto}
use Rattle.listed_acceptance.proofs.counting.are_stepped.Given as goal

abbrev pub invariant-loop-i : goal.invariant-loop-i
invariant-loop-i l = (l.i ≤ length l.steps) × Upto Stepped l.steps l.i
