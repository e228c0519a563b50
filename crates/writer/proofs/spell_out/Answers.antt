-- `spell_out` meets its contract: what is written at the front stands there.
use borrow.Author.Rules.{rules}
use Rattle.basics.proofs.PartByPart.{held}
use Rattle.writer.proofs.spell_out.Goals as goal

pub returns : goal.returns
returns c = held c.put_line.ensures (search rules)
