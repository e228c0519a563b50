-- `all_zero` meets its contract: it decides whether each byte is zero.
use mathlib.Core.Path.{◌≡◌}
use borrow.Author.Rules.{rules}
use borrow.Author.Tests.{tests}
use Rattle.std.proofs.lemmas.Iterator.{YieldsList-from_slice, cases_from_all}
use Rattle.names.proofs.Names.{zeros_said}
use Rattle.names.proofs.all_zero.Goals as goal

pub returns : goal.returns
returns c =
    zeros_said _ _
    (cases_from_all _ _ c.all.result (λ x. x ≡ 0) (λ x. x ≡ 0 → ⊥) c.all.ensures.ran
    (YieldsList-from_slice c.args.s.now cc) (λ x q k. search (rules, tests)) (λ x q k. search (rules, tests)))
