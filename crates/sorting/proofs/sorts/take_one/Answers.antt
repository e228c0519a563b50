-- `take_one` meets its contract.
use mathlib.Core.Path.{refl, sym, ◌∙◌}
use Rattle.sorting.proofs.OperatorSteps.{one_short, one_wrong, one_right}
use Rattle.sorting.proofs.sorts.take_one.Goals as goal

pub returns-then-s-lt1 : goal.returns-then-s-lt1
returns-then-s-lt1 c = one_short _ c.stop.ensures c.if-s-lt1.true

pub returns-then-sort_at : goal.returns-then-sort_at
returns-then-sort_at c =
    one_wrong _ c.stop-then-sort_at.ensures (sym c.sort_at.ensures ∙ c.if-sort_at.true)

pub returns : goal.returns
returns c =
    one_right _ c.requires c.if-s-lt1.false
    (sym c.sort_at.ensures ∙ c.if-sort_at.false) refl
    c.put.ensures
