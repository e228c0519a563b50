-- `splitting::split` meets its contract.
use Rattle.step_tests.proofs.Splits.{split_left, split_right, split_left_first}
use Rattle.step_tests.proofs.Splits.{split_right_first, split_together}
use Rattle.step_tests.proofs.splitting.split.Goals as goal

pub returns-in-Left : goal.returns-in-Left
returns-in-Left c = rw c.in-Left.is (split_left _ _ _)

pub returns-in-Right : goal.returns-in-Right
returns-in-Right c = rw c.in-Right.is (split_right _ _ _)

pub returns-in-LeftFirst : goal.returns-in-LeftFirst
returns-in-LeftFirst c = rw c.in-LeftFirst.is (split_left_first _ _ _ c.behind.ensures)

pub returns-in-RightFirst : goal.returns-in-RightFirst
returns-in-RightFirst c = rw c.in-RightFirst.is (split_right_first _ _ _ c.behind-in-RightFirst.ensures)

pub returns-in-Together : goal.returns-in-Together
returns-in-Together c =
    rw c.in-Together.is
    (split_together _ _ _ (rw c.saturating_sub.ensures at c.behind-in-Together.ensures)
    (rw c.saturating_sub-in-Together.ensures at c.behind-in-Together-2.ensures))
