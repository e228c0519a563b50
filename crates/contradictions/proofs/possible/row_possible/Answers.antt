-- `contradictions::possible::row_possible` meets its contract.
use native.Mathlib.Omega.{arith}
use borrow.Author.Rules.{rules}
use borrow.Author.Tests.{tests}
use Prim.Native.Nat.{ℕ}
use mathlib.Core.Bool.{Bool}
use mathlib.Core.Path.{refl, ◌∙◌}
use Rattle.std.proofs.lemmas.Iterator.{YieldsList-from_range}
use Rattle.std.proofs.lemmas.Iterator.Search.{any_from_yields_List}
use Rattle.alternatives.specs.Listed.{tests_listed}
use Rattle.contradictions.specs.Possible.{allowed, row_literals}
use Rattle.contradictions.proofs.Flagging.{any_below, possible_is}
use Rattle.contradictions.proofs.possible.row_possible.Goals as goal

-- whether a state is allowed
abbrev passes : goal.After-any → ℕ → Bool
passes c =
    allowed (row_literals (tests_listed c.args.tree.now c.args.names c.args.lists.now)
    c.args.t c.args.b c.args.n c.args.name)

pub returns : goal.returns
returns c =
    any_from_yields_List (passes c) _ _ c.any.result c.any.ensures.ran
    (YieldsList-from_range 0 8 8 refl (omega arith)) (λ x b q k. search (rules, tests))
    ∙ any_below (passes c) 8 ∙ possible_is _
