-- `count_of` meets its contract.
use mathlib.Core.Path.{◌∙◌}
use borrow.Author.Rules.{rules}
use borrow.Author.Tests.{tests}
use lib.Dec.{eqb}
use Rattle.std.proofs.lemmas.Iterator.{YieldsList-from_slice}
use Rattle.std.proofs.lemmas.Iterator.Consumers.{YieldsList-from_filter, count_from_yields_List}
use Rattle.column_listings.proofs.LastLine.{how_many_is}
use Rattle.column_listings.proofs.totals.count_of.Goals as goal

pub returns : goal.returns
returns c =
    count_from_yields_List c.filter.result _ c.count.ensures.ran
    (YieldsList-from_filter _ (λ x. eqb x c.args.a) (YieldsList-from_slice c.args.answers.now cc)
    c.filter.ensures.closure (λ x b q k. search (rules, tests)))
    ∙ how_many_is c.args.answers.now c.args.a
