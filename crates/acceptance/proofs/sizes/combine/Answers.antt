-- `limits::sizes::combine` meets its contract.
use Rattle.acceptance.proofs.CappedSizes.{left_combined, right_combined, left_first, right_first, together}
use Rattle.acceptance.proofs.sizes.combine.Goals as goal

pub returns-in-Left : goal.returns-in-Left
returns-in-Left c = rw c.in-Left.is left_combined

pub returns-in-Right : goal.returns-in-Right
returns-in-Right c = rw c.in-Right.is right_combined

pub returns-in-LeftFirst : goal.returns-in-LeftFirst
returns-in-LeftFirst c = rw c.in-LeftFirst.is (left_first c.cap-tests.ensures c.cap.ensures)

pub returns-in-RightFirst : goal.returns-in-RightFirst
returns-in-RightFirst c =
    rw c.in-RightFirst.is (right_first c.cap-tests.ensures c.cap-in-RightFirst.ensures)

pub returns-in-Together : goal.returns-in-Together
returns-in-Together c = rw c.in-Together.is (together c.cap-tests.ensures c.max.ensures)
