-- `correcting::letters_fit` meets its contract.
use Rattle.basics.specs.Deciding.{Decides}
use Rattle.basics.proofs.Deciding.{same_decided}
use Rattle.letter_corrections.proofs.correcting.letters_fit.Goals as goal

pub returns-then-letters-k : goal.returns-then-letters-k
unfolding Decides
returns-then-letters-k c = λ s. c.if-letters-k.true s.full

pub returns : goal.returns
returns c =
    same_decided _ _ _ (λ l. record { rows = l; full = c.if-letters-k.false }) (λ s. s.rows) c.rows_fit.ensures
