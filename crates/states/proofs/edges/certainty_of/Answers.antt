-- `edges::certainty_of` meets its contract: its table has the definition's answer at each entry.
use mathlib.Core.Path.{refl}
use Rattle.basics.specs.Words.{listed}
use Rattle.alf.specs.States.{reduce}
use Rattle.alf.specs.Windows.{certainty}
use Rattle.basics.proofs.Choices.{every}
use Rattle.basics.proofs.Tables.{codes, line_rule}
use borrow.Author.Rules.{rules}
use Rattle.states.proofs.edges.certainty_of.Goals as goal

pub returns : goal.returns
unfolding listed every codes reduce certainty
returns c = (line_rule certainty 0 c.args.x refl (search rules)).0
