-- `rewriting::possible::row_allows` meets its contract.
use Rattle.std.proofs.Common.{ap, ◌∙◌}
use Rattle.std.proofs.Math.Bool.{not}
use Rattle.contradictions.proofs.Flagging.{row_no, row_both}
use Rattle.contradictions.proofs.possible.row_allows.Goals as goal

pub returns-then-step_allows : goal.returns-then-step_allows
returns-then-step_allows c =
    row_both _ _ _ _ _ _ c.step_allows.ensures (ap not c.if-step_allows.true) c.step_allows-then-step_allows.ensures

pub returns-else-step_allows : goal.returns-else-step_allows
returns-else-step_allows c =
    c.if-step_allows.false ∙ row_no _ _ _ _ _ _ c.step_allows.ensures (ap not c.if-step_allows.false)
