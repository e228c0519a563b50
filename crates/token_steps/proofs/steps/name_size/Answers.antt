-- `name_size` counts the name bytes that stand together.
use mathlib.Core.Path.{◌≡◌, ◌∙◌}
use borrow.Author.Rules.{rules}
use borrow.Author.Tests.{tests}
use mathlib.Core.Bool.{true, false}
use lib.ListN.{drop}
use Rattle.std.proofs.lemmas.List.{take_rest}
use Rattle.std.proofs.lemmas.Iterator.{YieldsList-from_slice, IsFirst-from_position}
use Rattle.alf.specs.Names.{goes_on_name}
use Rattle.basics.proofs.Walked.{first_place}
use Rattle.token_steps.proofs.ByteByByte.{names_first}
use Rattle.token_steps.proofs.steps.name_size.Goals as goal

pub returns : goal.returns
returns c =
    let f = first_place (λ x. goes_on_name x ≡ false) (λ x. goes_on_name x ≡ true) _ _
    (IsFirst-from_position _ _ c.position.result
    (λ x. goes_on_name x ≡ false) (λ x. goes_on_name x ≡ true) c.position.ensures.ran
    (YieldsList-from_slice (drop c.args.at c.args.text.now) (c.iter.ensures.rest ∙ take_rest c.args.text.now c.args.at))
    (λ x q k. search (rules, tests)) (λ x q k. search (rules, tests))) in
    let u = rw (take_rest c.args.text.now c.args.at) at c.unwrap_or.ensures in
    rw u (names_first _ _ f.within f.before f.there)
