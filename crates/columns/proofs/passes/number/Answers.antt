-- `passes::number` meets its contract.
use mathlib.Core.Path.{refl}
use Rattle.alf.specs.Windows.{numbered}
use Rattle.evaluator.proofs.AnswerNumbers.{numbered_yes}
use Rattle.columns.proofs.passes.number.Goals as goal

pub returns-in-0 : goal.returns-in-0
unfolding numbered
returns-in-0 c = rw c.in-0.is refl

pub returns-in-1 : goal.returns-in-1
unfolding numbered
returns-in-1 c = rw c.in-1.is refl

pub returns-in_default : goal.returns-in_default
unfolding numbered
returns-in_default c = numbered_yes _ c.in_default.in_default-own.rest.0.1 c.in_default.in_default-own.rest.1
