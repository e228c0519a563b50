-- `splitting::in_turn` meets its contract.
use mathlib.Core.Path.{refl}
use Rattle.step_tests.specs.Steps.{in_turn}
use Rattle.step_tests.proofs.splitting.in_turn.Goals as goal

pub returns-in-Left : goal.returns-in-Left
unfolding in_turn
returns-in-Left c = rw c.in-Left.is refl

pub returns-in-Right : goal.returns-in-Right
unfolding in_turn
returns-in-Right c = rw c.in-Right.is refl

pub returns-in-LeftFirst : goal.returns-in-LeftFirst
unfolding in_turn
returns-in-LeftFirst c = rw c.in-LeftFirst.is refl

pub returns-in-RightFirst : goal.returns-in-RightFirst
unfolding in_turn
returns-in-RightFirst c = rw c.in-RightFirst.is refl

pub returns-in-Together : goal.returns-in-Together
unfolding in_turn
returns-in-Together c = rw c.in-Together.is refl
