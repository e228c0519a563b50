-- `plain` is the step at what begins with no name byte and no `'`: each way out by its own law.
use native.Mathlib.Omega.{arith}
use mathlib.Core.Path.{sym, ◌∙◌}
use Rattle.token_steps.proofs.Ways.{not_plain, not_second, third, pair, plain_small}
use Rattle.token_steps.proofs.steps.plain.Goals as goal

pub returns-in_default : goal.returns-in_default
returns-in_default c = c.find.ensures ∙ not_plain _ c.peek.ensures (sym c.in_default.ensures)

pub returns-in_default-plain_half : goal.returns-in_default-plain_half
returns-in_default-plain_half c =
    c.find-in_default-plain_half.ensures
    ∙ not_second _ c.peek.ensures (sym c.in-Some.ensures) c.peek-2.ensures (sym c.in_default-plain_half.ensures)

pub returns-then-is_some : goal.returns-then-is_some
returns-then-is_some c =
    third _ c.peek.ensures (sym c.in-Some.ensures) c.peek-2.ensures (sym c.in-Some-plain_half.ensures)
    c.peek-3.ensures (rw c.plain_half-3.ensures at (sym c.if-is_some.ensures))

pub overflow_mul-result : goal.overflow_mul-result
overflow_mul-result c = let k = plain_small _ (sym c.in-Some.ensures) in omega arith

pub overflow_add-result : goal.overflow_add-result
overflow_add-result c = let k = plain_small _ (sym c.in-Some.ensures) in omega arith

pub overflow_add-result-2 : goal.overflow_add-result-2
overflow_add-result-2 c =
    let k = plain_small _ (sym c.in-Some.ensures) in
    let j = plain_small _ (sym c.in-Some-plain_half.ensures) in omega arith

pub returns : goal.returns
returns c =
    pair _ c.peek.ensures (sym c.in-Some.ensures) c.peek-2.ensures (sym c.in-Some-plain_half.ensures)
    c.peek-3.ensures (rw c.plain_half-3.ensures at (sym c.if-is_some.ensures))
