use native.Mathlib.Omega.{arith}
use Rattle.states.proofs.BadCodes.{bounds_after}
use Rattle.states.proofs.codes.largest_of.Goals as goal

pub loop-s-preserved : goal.loop-s-preserved
loop-s-preserved c = bounds_after _ _ _ _ c.loop-s.invariant c.max-most.ensures

pub returns : goal.returns
returns c = record { all = λ i h. c.loop-s.invariant i (omega arith) }
