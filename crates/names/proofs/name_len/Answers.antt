-- `name_len` meets its contract: what is before the first zero.
use mathlib.Core.Path.{◌≡◌}
use borrow.Author.Rules.{rules}
use borrow.Author.Tests.{tests}
use Rattle.std.proofs.lemmas.Iterator.{YieldsList-from_slice, IsFirst-from_position}
use Rattle.basics.proofs.Walked.{first_place}
use Rattle.names.proofs.Names.{until_first}
use Rattle.names.proofs.name_len.Goals as goal

pub returns : goal.returns
returns c =
    let f = first_place (λ x. x ≡ 0) (λ x. x ≡ 0 → ⊥) _ _
    (IsFirst-from_position _ _ c.position.result (λ x. x ≡ 0) (λ x. x ≡ 0 → ⊥) c.position.ensures.ran
    (YieldsList-from_slice c.args.slot.now cc) (λ x q k. search (rules, tests)) (λ x q k. search (rules, tests))) in
    rw c.unwrap_or.ensures (record { name = until_first _ _ f.within f.before f.there; within = f.within })
