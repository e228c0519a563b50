-- `states::equals` meets its contract: its table has the definition's answer at each entry.
use mathlib.Core.Path.{refl}
use mathlib.Core.List.{[]}
use Rattle.basics.specs.Words.{listed}
use Rattle.alf.specs.States.{relations, table, among, matches, in_cells, in_lines}
use Rattle.basics.proofs.Choices.{every}
use Rattle.basics.proofs.Tables.{codes, square_rule}
use borrow.Author.Rules.{rules}
use Rattle.states.proofs.states.equals.Goals as goal

pub returns : goal.returns
unfolding listed every codes relations table among matches in_cells in_lines
returns c =
    square_rule (λ x y. (relations x y).equal) [] 0 c.args.x c.args.y refl
    (search rules) (search rules)
