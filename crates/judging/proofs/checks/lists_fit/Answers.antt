-- `checks::lists_fit` meets its contract.
use mathlib.Core.Path.{ap}
use mathlib.Core.Bool.{not}
use Rattle.basics.specs.Deciding.{Decides}
use Rattle.basics.proofs.Deciding.{not_said, said, same_decided}
use Rattle.judging.proofs.checks.lists_fit.Goals as goal

pub returns-then-not-lent : goal.returns-then-not-lent
unfolding Decides
returns-then-not-lent c = λ s. not_said _ (ap not c.if-not-lent.true) s.0

pub returns : goal.returns
returns c = same_decided _ _ _ (λ l. (said _ (ap not c.if-not-lent.false), l)) (λ s. s.1) c.rows_fit.ensures
