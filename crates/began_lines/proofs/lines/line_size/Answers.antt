-- `line_size` meets its contract.
use Rattle.began_lines.proofs.ThirdColumn.{line_size_lem}
use Rattle.began_lines.proofs.lines.line_size.Goals as goal

pub returns : goal.returns
returns c = line_size_lem _ _ _ c.width_of.ensures c.word_size.ensures c.began_size.ensures
