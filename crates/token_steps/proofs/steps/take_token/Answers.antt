-- `take_token` is the token step: the first byte's class says how it goes on.
use mathlib.Core.Path.{◌∙◌}
use Rattle.token_steps.proofs.Ways.{by_class, by_other, short_name, long_name}
use Rattle.token_steps.proofs.steps.take_token.Goals as goal

pub returns-then-n-le32 : goal.returns-then-n-le32
returns-then-n-le32 c =
    short_name _ c.name_size-n.ensures c.if-n-le32.true
    ∙ by_class _ c.in-Letter.ensures c.peek.ensures

pub returns-else-n-le32 : goal.returns-else-n-le32
returns-else-n-le32 c =
    long_name _ c.name_size-n.ensures c.if-n-le32.false
    ∙ by_class _ c.in-Letter.ensures c.peek.ensures

pub returns-in-Quote : goal.returns-in-Quote
returns-in-Quote c =
    c.based.ensures
    ∙ by_class _ c.in-Quote.ensures c.peek.ensures

pub returns-in_default : goal.returns-in_default
returns-in_default c =
    c.plain.ensures
    ∙ by_other _ c.in_default.not-Letter c.in_default.not-Quote
    ∙ by_class _ c.class_of.ensures c.peek.ensures
