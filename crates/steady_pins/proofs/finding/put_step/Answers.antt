-- `finding::put_step` meets its contract.
use Rattle.std.proofs.Common.{◌∙◌}
use borrow.Author.Tests.{not-true, not-false}
use Rattle.steady_pins.proofs.StepEntries.{still_run, still_step, moving_row}
use Rattle.steady_pins.proofs.finding.put_step.Goals as goal

pub returns-then-not-before : goal.returns-then-not-before
returns-then-not-before c = still_run _ _ _ _ (not-true _ c.if-not-before.true)

pub returns-then-not-mine : goal.returns-then-not-mine
returns-then-not-mine c = still_step _ _ _ _ (not-false _ c.if-not-before.false) (not-true _ c.if-not-mine.true)

pub returns : goal.returns
returns c =
    c.put_row.ensures ∙ moving_row _ _ _ _ (not-false _ c.if-not-before.false) (not-false _ c.if-not-mine.false)
