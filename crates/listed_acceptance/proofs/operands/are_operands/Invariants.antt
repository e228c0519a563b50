-- `operands::are_operands` meets its contract.
use Prim.Native.Nat.{◌≤◌}
use lib.ListN.{length}
use Rattle.listed_acceptance.specs.Lists.{Operand}
use Rattle.listed_acceptance.proofs.Each.{Upto}
use Rattle.listed_acceptance.proofs.operands.are_operands.Given as goal

abbrev pub invariant-loop-i : goal.invariant-loop-i
invariant-loop-i l = (l.i ≤ length l.operands) × Upto (Operand l.tree l.names) l.operands l.i
