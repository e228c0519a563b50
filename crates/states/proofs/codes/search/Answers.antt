-- `codes::search` meets its contract: the first code above 7.
use borrow.Author.Rules.{rules}
use borrow.Author.Tests.{tests}
use Prim.Native.Nat.{◌<◌}
use Rattle.std.proofs.lemmas.Iterator.{YieldsList-from_slice, IsFirst-from_position}
use Rattle.basics.proofs.Walked.{first_place}
use Rattle.states.proofs.codes.search.Goals as goal

pub returns : goal.returns
returns c =
    let f = first_place (λ s. 7 < s) (λ s. s < 8) _ _
    (IsFirst-from_position _ _ c.position.result (λ s. 7 < s) (λ s. s < 8) c.position.ensures.ran
    (YieldsList-from_slice c.args.states.now cc) (λ x q k. search (rules, tests)) (λ x q k. search (rules, tests))) in
    rw c.unwrap_or.ensures (record { within = f.within; before = f.before; there = f.there })
