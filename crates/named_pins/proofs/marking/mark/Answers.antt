-- `marking::mark` meets its contract.
use mathlib.Core.Path.{sym}
use lib.Seq.{set_out}
use Rattle.named_pins.proofs.marking.mark.Goals as goal

pub returns-else-i-kept : goal.returns-else-i-kept
returns-else-i-kept c = sym (set_out _ _ 1 c.if-i-kept.false)
