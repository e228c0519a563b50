-- `lay_out` meets its contract: what is written at the front stands there.
use borrow.Author.Rules.{rules}
use Rattle.basics.proofs.PartByPart.{held}
use Rattle.writer.proofs.lay_out.Goals as goal

pub returns : goal.returns
returns c = held c.emit.ensures (search rules)
