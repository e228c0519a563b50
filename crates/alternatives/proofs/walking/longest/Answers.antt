use native.Mathlib.Omega.{arith}
use Rattle.alternatives.proofs.Cuts.{most_next, most_last}
use Rattle.alternatives.proofs.walking.longest.Goals as goal

pub loop-many-preserved : goal.loop-many-preserved
loop-many-preserved c = let e = most_next c.args.steps.now c.loop-many.many-index (omega arith) in omega arith

pub returns : goal.returns
returns c = let e = most_last c.args.steps.now c.loop-many.many-index (omega arith) in omega arith
