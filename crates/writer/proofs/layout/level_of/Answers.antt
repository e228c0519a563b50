-- `level_of` meets its contract, by the table of levels.
use Rattle.writer.proofs.Tables.{level_table}
use Rattle.writer.proofs.layout.level_of.Goals as goal

pub returns : goal.returns
returns c = level_table c.args.b c.requires.0 c.requires.1
