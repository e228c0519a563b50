-- `contradictions::possible::contradicts` meets its contract.
use native.Mathlib.Omega.{arith}
use borrow.Author.Rules.{rules}
use borrow.Author.Tests.{tests}
use Prim.Native.Nat.{ℕ}
use mathlib.Core.Bool.{Bool}
use mathlib.Core.Path.{refl, ◌∙◌}
use Rattle.std.proofs.lemmas.Iterator.{YieldsList-from_range}
use Rattle.std.proofs.lemmas.Iterator.Search.{any_from_yields_List}
use Rattle.alternatives.specs.InMemory.{alternative_in}
use Rattle.alternatives.specs.Listed.{tests_listed}
use Rattle.contradictions.specs.Possible.{impossible}
use Rattle.contradictions.proofs.Flagging.{any_below, contradictory_is}
use Rattle.contradictions.proofs.possible.contradicts.Goals as goal

-- whether a name is impossible
abbrev passes : goal.After-any → ℕ → Bool
passes c =
    impossible
    (alternative_in c.args.lists.now.tests.now (tests_listed c.args.tree.now c.args.names c.args.lists.now)
    c.args.s c.args.t c.args.n)

pub returns : goal.returns
returns c =
    any_from_yields_List (passes c) _ _ c.any.result c.any.ensures.ran
    (YieldsList-from_range 0 c.args.names c.args.names refl (omega arith)) (λ x b q k. search (rules, tests))
    ∙ any_below (passes c) c.args.names ∙ contradictory_is _ _
