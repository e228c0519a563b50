-- `stands` says whether a spelling stands at a place: each way out by its own law.
use Rattle.token_steps.proofs.Words.{other_first, one_byte, other_second, two_bytes, third_byte}
use Rattle.token_steps.proofs.spellings.stands.Goals as goal

pub returns-then-x-peek : goal.returns-then-x-peek
returns-then-x-peek c = other_first _ _ _ _ c.requires.byte c.peek.ensures c.if-x-peek.true

pub returns-then-y-eq0 : goal.returns-then-y-eq0
returns-then-y-eq0 c =
    one_byte _ _ _ _ c.requires.byte c.peek.ensures
    c.if-x-peek.false c.if-y-eq0.true

pub returns-then-y-peek : goal.returns-then-y-peek
returns-then-y-peek c =
    other_second _ _ _ _ c.requires.byte
    c.peek.ensures c.if-x-peek.false
    c.if-y-eq0.false c.peek-2.ensures c.if-y-peek.true

pub returns-then-z-eq0 : goal.returns-then-z-eq0
returns-then-z-eq0 c =
    two_bytes _ _ _ _ c.requires.byte
    c.peek.ensures c.if-x-peek.false
    c.if-y-eq0.false c.peek-2.ensures c.if-y-peek.false c.if-z-eq0.true

pub returns : goal.returns
returns c =
    third_byte _ _ _ _ c.requires.byte
    c.peek.ensures
    c.if-x-peek.false
    c.if-y-eq0.false c.peek-2.ensures
    c.if-y-peek.false
    c.if-z-eq0.false c.peek-3.ensures
