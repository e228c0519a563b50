-- `corrections::reached` meets its contract.
use native.Mathlib.Omega.{arith}
use Rattle.alf.specs.Traces.{last_rewritten}
use Rattle.correction.proofs.corrections.reached.Goals as goal

pub returns-then-r-k : goal.returns-then-r-k
unfolding last_rewritten
returns-then-r-k c = omega arith

pub returns : goal.returns
unfolding last_rewritten
returns c = omega arith
