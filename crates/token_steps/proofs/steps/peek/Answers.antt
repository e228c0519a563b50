-- `peek` gives a byte from a place on, 0 past the end.
use mathlib.Core.Path.{sym}
use lib.Seq.{get_or-drop}
use Rattle.token_steps.proofs.ByteByByte.{past_end}
use Rattle.token_steps.proofs.steps.peek.Goals as goal

pub returns-then-at-k : goal.returns-then-at-k
returns-then-at-k c = sym (get_or-drop _ c.args.text.now _ 0)

pub returns-else-at-k : goal.returns-else-at-k
returns-else-at-k c = past_end c.args.text.now c.args.at c.args.k c.if-at-k.false
