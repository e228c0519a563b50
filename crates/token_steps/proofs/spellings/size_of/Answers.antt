-- `size_of` is the length of the bytes before the first zero.
use Rattle.token_steps.proofs.Words.{size_one, size_two, size_three}
use Rattle.token_steps.proofs.spellings.size_of.Goals as goal

pub returns-then-y-eq0 : goal.returns-then-y-eq0
returns-then-y-eq0 c = size_one _ _ _ c.if-y-eq0.true

pub returns-then-z-eq0 : goal.returns-then-z-eq0
returns-then-z-eq0 c = size_two _ _ _ c.if-y-eq0.false c.if-z-eq0.true

pub returns : goal.returns
returns c = size_three _ _ _ c.if-y-eq0.false c.if-z-eq0.false
