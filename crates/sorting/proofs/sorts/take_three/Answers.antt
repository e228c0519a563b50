-- `take_three` meets its contract.
use native.Mathlib.Omega.{arith}
use mathlib.Core.Path.{sym, ◌∙◌}
use Rattle.sorting.proofs.OperatorSteps.{three_short, three_wrong, three_right}
use Rattle.sorting.proofs.sorts.take_three.Goals as goal

pub returns-then-s-lt3 : goal.returns-then-s-lt3
returns-then-s-lt3 c = three_short _ c.stop.ensures c.if-s-lt3.true

pub returns-then-sort_at : goal.returns-then-sort_at
returns-then-sort_at c =
    three_wrong _ c.stop-then-sort_at.ensures 2 (omega arith)
    (sym c.sort_at.ensures ∙ c.if-sort_at.true)

pub returns-then-sort_at-2 : goal.returns-then-sort_at-2
returns-then-sort_at-2 c =
    three_wrong _ c.stop-then-sort_at-2.ensures 1 (omega arith)
    (sym c.sort_at-2.ensures ∙ c.if-sort_at-2.true)

pub returns-then-sort_at-3 : goal.returns-then-sort_at-3
returns-then-sort_at-3 c =
    three_wrong _ c.stop-then-sort_at-3.ensures 0 (omega arith)
    (sym c.sort_at-3.ensures ∙ c.if-sort_at-3.true)

pub returns : goal.returns
returns c =
    three_right _ c.if-s-lt3.false (sym c.sort_at.ensures ∙ c.if-sort_at.false)
    (sym c.sort_at-2.ensures ∙ c.if-sort_at-2.false)
    (sym c.sort_at-3.ensures ∙ c.if-sort_at-3.false)
    c.put.ensures
