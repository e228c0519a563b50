-- `to_blank` counts the bytes up to a blank.
use mathlib.Core.Path.{◌≡◌, ◌∙◌}
use mathlib.Core.Bool.{true, false}
use borrow.Author.Rules.{rules}
use borrow.Author.Tests.{tests}
use lib.ListN.{drop}
use Rattle.std.proofs.lemmas.List.{take_rest}
use Rattle.std.proofs.lemmas.Iterator.{YieldsList-from_slice, IsFirst-from_position}
use Rattle.basics.proofs.Walked.{first_place}
use Rattle.token_steps.specs.Classes.{is_blank_lem}
use Rattle.tokens.proofs.ShownBytes.{blank_first}
use Rattle.tokens.proofs.extents.to_blank.Goals as goal

pub returns : goal.returns
returns c =
    let f = first_place (λ x. is_blank_lem x ≡ true) (λ x. is_blank_lem x ≡ false) _ _
    (IsFirst-from_position _ _ c.position.result
    (λ x. is_blank_lem x ≡ true) (λ x. is_blank_lem x ≡ false) c.position.ensures.ran
    (YieldsList-from_slice (drop c.args.at c.args.text.now) (c.iter.ensures.rest ∙ take_rest c.args.text.now c.args.at))
    (λ x q k. search (rules, tests)) (λ x q k. search (rules, tests))) in
    let u = rw (take_rest c.args.text.now c.args.at) at c.unwrap_or.ensures in
    rw u (blank_first _ _ f.within f.before f.there)
