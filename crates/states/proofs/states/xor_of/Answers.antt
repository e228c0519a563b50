-- `states::xor_of` meets its contract: its table has the definition's answer at each entry.
use mathlib.Core.Path.{refl}
use mathlib.Core.List.{[]}
use Rattle.basics.specs.Words.{listed}
use Rattle.alf.specs.States.{reduce, xor_of}
use Rattle.basics.proofs.Choices.{every}
use Rattle.basics.proofs.Tables.{codes, square_rule}
use borrow.Author.Rules.{rules}
use Rattle.states.proofs.states.xor_of.Goals as goal

pub returns : goal.returns
unfolding listed every codes reduce xor_of
returns c = square_rule xor_of [] 0 c.args.x c.args.y refl (search rules) (search rules)
