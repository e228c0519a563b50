-- `read_all` reads an expression and sees that nothing is left.
use borrow.Author.Rules.{rules}
use mathlib.Core.Path.{refl}
use Rattle.parser_steps.specs.Inner.{view}
use Rattle.parser.proofs.LastState.{finished_end, finished_more}
use Rattle.parser.proofs.read_all.Goals as goal

pub returns-then-at-codes : goal.returns-then-at-codes
unfolding view
returns-then-at-codes c =
    finished_more (λ ps. refl) c.level6-r.ensures c.if-at-codes.true c.stop.ensures

pub returns : goal.returns
unfolding view
returns c = finished_end (λ ps. refl) c.level6-r.ensures (search rules)
