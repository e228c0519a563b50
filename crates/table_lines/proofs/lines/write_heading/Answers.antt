-- `write_heading` meets its contract.
use Rattle.basics.specs.Text.{bytes}
use Rattle.table_lines.specs.Table.{heading, heading_line}
use Rattle.table_lines.proofs.lines.write_heading.Goals as goal

pub returns : goal.returns
unfolding heading_line heading bytes
returns c = c.finish.ensures
