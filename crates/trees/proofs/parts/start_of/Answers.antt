use native.Mathlib.Omega.{arith}
use Rattle.trees.proofs.Starts.{going_first, going_on, going_done}
use Rattle.trees.proofs.parts.start_of.Goals as goal

pub loop-need-init : goal.loop-need-init
loop-need-init c = going_first c.requires

pub loop-need-preserved : goal.loop-need-preserved
loop-need-preserved c =
    rw c.arity.ensures
    (going_on _ _ _ _ _ c.loop-need.invariant c.loop-need-test.true)

pub overflow_add-need : goal.overflow_add-need
overflow_add-need c = let g = loop-need-preserved c in omega arith

pub returns : goal.returns
returns c = going_done c.loop-need.invariant c.loop-need-test.false
