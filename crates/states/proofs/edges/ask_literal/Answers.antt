-- `edges::ask_literal` meets its contract: its table has the definition's answer at each entry.
use mathlib.Core.Path.{refl}
use mathlib.Core.List.{[]}
use Rattle.basics.specs.Words.{listed}
use Rattle.alf.specs.States.{reduce}
use Rattle.alf.specs.Expressions.{the}
use Rattle.alf.specs.Windows.{asked, digit_asked, letter_asked}
use Rattle.basics.proofs.Choices.{every}
use Rattle.basics.proofs.Tables.{codes, square_rule}
use borrow.Author.Rules.{rules}
use Rattle.states.proofs.edges.ask_literal.Goals as goal

pub returns : goal.returns
unfolding listed every codes reduce digit_asked letter_asked asked
returns c =
    (square_rule (λ l s. asked (the l) s) [] 0 c.args.l c.args.s refl (search rules)
    (search rules)).0
