-- `half_at` gives the half at a byte: each way out by its own law.
use mathlib.Core.Path.{sym, ◌∙◌}
use Rattle.token_steps.proofs.Halves.{no_quote, no_b, name_byte_lem, half}
use Rattle.token_steps.proofs.steps.half_at.Goals as goal

pub returns-then-peek-ne39 : goal.returns-then-peek-ne39
returns-then-peek-ne39 c = no_quote _ _ c.peek.ensures c.if-peek-ne39.true

pub returns-then-peek-ne98 : goal.returns-then-peek-ne98
returns-then-peek-ne98 c =
    no_b _ _ c.peek.ensures c.if-peek-ne39.false c.peek-2.ensures
    c.if-peek-ne98.true

pub returns-then-is_name_byte : goal.returns-then-is_name_byte
returns-then-is_name_byte c =
    name_byte_lem _ _ c.peek.ensures
    c.if-peek-ne39.false
    c.peek-2.ensures c.if-peek-ne98.false
    c.peek-3.ensures
    (sym c.is_name_byte.ensures ∙ c.if-is_name_byte.true)

pub returns : goal.returns
returns c =
    half _ _ c.peek.ensures
    c.if-peek-ne39.false
    c.peek-2.ensures
    c.if-peek-ne98.false c.peek-3.ensures
    (sym c.is_name_byte.ensures ∙ c.if-is_name_byte.false)
    c.peek-4.ensures c.half_of.ensures
