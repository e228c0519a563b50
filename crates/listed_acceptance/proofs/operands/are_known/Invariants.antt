-- `operands::are_known` meets its contract.
use Prim.Native.Nat.{◌≤◌}
use lib.ListN.{length}
use Rattle.listed_acceptance.specs.Lists.{Known}
use Rattle.listed_acceptance.proofs.Each.{Upto}
use Rattle.listed_acceptance.proofs.operands.are_known.Given as goal

abbrev pub invariant-loop-i : goal.invariant-loop-i
invariant-loop-i l = (l.i ≤ length l.edges) × Upto Known l.edges l.i
