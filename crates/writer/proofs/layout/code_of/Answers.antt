-- `code_of` meets its contract, by the table of codes.
use Rattle.writer.proofs.Tables.{code_table}
use Rattle.writer.proofs.layout.code_of.Goals as goal

pub returns : goal.returns
returns c = code_table c.args.b c.requires.0 c.requires.1
