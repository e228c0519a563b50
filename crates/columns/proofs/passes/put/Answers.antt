-- `passes::put` meets its contract.
use native.Mathlib.Omega.{arith}
use Rattle.columns.proofs.Passing.{over_filled}
use Rattle.columns.proofs.passes.put.Goals as goal

pub returns : goal.returns
returns c = over_filled _ _ _ _ _ _ (c.fill.ensures.after (λ y e. e)) (omega arith) (omega (arith, c.requires))
