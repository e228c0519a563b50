-- `pair_byte` meets its contract, way by way.
use Rattle.sorting.proofs.PairBytes.{both_and, both_or, both_below, both_above, right_and, right_other}
use Rattle.sorting.proofs.PairBytes.{left_and, left_other, none_below, none_above}
use Rattle.sorting.proofs.sorts.pair_byte.Goals as goal

pub returns-then-code-eq40 : goal.returns-then-code-eq40
returns-then-code-eq40 c = both_and c.if-left.true c.if-right.true c.if-code-eq40.true

pub returns-then-code-eq41 : goal.returns-then-code-eq41
returns-then-code-eq41 c =
    both_or c.if-left.true c.if-right.true c.if-code-eq40.false
    c.if-code-eq41.true

pub returns-then-code-lt50 : goal.returns-then-code-lt50
returns-then-code-lt50 c =
    both_below c.if-left.true c.if-right.true c.if-code-eq40.false c.if-code-eq41.false
    c.if-code-lt50.true

pub returns-then-right : goal.returns-then-right
returns-then-right c =
    both_above c.if-left.true c.if-right.true c.if-code-eq40.false c.if-code-eq41.false
    c.if-code-lt50.false

pub returns-then-code-eq40-2 : goal.returns-then-code-eq40-2
returns-then-code-eq40-2 c = right_and c.if-left.true c.if-right.false c.if-code-eq40-2.true

pub returns-then-left : goal.returns-then-left
returns-then-left c = right_other c.if-left.true c.if-right.false c.if-code-eq40-2.false

pub returns-then-code-eq40-3 : goal.returns-then-code-eq40-3
returns-then-code-eq40-3 c = left_and c.if-left.false c.if-right-2.true c.if-code-eq40-3.true

pub returns-then-right-2 : goal.returns-then-right-2
returns-then-right-2 c = left_other c.if-left.false c.if-right-2.true c.if-code-eq40-3.false

pub returns-then-code-lt50-2 : goal.returns-then-code-lt50-2
returns-then-code-lt50-2 c = none_below c.if-left.false c.if-right-2.false c.if-code-lt50-2.true

pub returns : goal.returns
returns c = none_above c.if-left.false c.if-right-2.false c.if-code-lt50-2.false
