-- `correcting::correction_fits` meets its contract.
use Rattle.basics.specs.Deciding.{Decides}
use Rattle.basics.proofs.Deciding.{same_decided}
use Rattle.update_calls.proofs.correcting.correction_fits.Goals as goal

pub returns-then-answers-n : goal.returns-then-answers-n
unfolding Decides
returns-then-answers-n c = λ s. c.if-answers-n.true s.room

pub returns-then-new-names : goal.returns-then-new-names
unfolding Decides
returns-then-new-names c = λ s. c.if-new-names.true s.full

pub returns : goal.returns
returns c =
    same_decided _ _ _
    (λ l. record { room = c.if-answers-n.false; full = c.if-new-names.false; rows = l })
    (λ s. s.rows) c.rows_fit.ensures
