-- `states::reduced` meets its contract: its table has the definition's answer at each entry.
use mathlib.Core.Path.{refl}
use Rattle.basics.specs.Words.{listed}
use Rattle.alf.specs.States.{reduce}
use Rattle.basics.proofs.Choices.{every}
use Rattle.basics.proofs.Tables.{codes, line_rule}
use borrow.Author.Rules.{rules}
use Rattle.states.proofs.states.reduced.Goals as goal

pub returns : goal.returns
unfolding listed every codes reduce
returns c = line_rule reduce 0 c.args.x refl (search rules)
