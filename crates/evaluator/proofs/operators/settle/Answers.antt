-- `operators::settle` meets its contract.
use native.Mathlib.Omega.{arith}
use Rattle.evaluator.proofs.Operating.{settled_name, settled_other}
use Rattle.evaluator.proofs.operators.settle.Goals as goal

pub returns-then-b-lt32 : goal.returns-then-b-lt32
returns-then-b-lt32 c = settled_name c.args.b _ (omega arith) c.reduced.ensures

pub returns-else-b-lt32 : goal.returns-else-b-lt32
returns-else-b-lt32 c = settled_other c.args.b _ (omega arith) c.requires
