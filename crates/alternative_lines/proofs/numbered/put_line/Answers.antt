-- `put_line` meets its contract.
use Rattle.basics.specs.Text.{bytes}
use Rattle.alternative_lines.proofs.LineParts.{line_put}
use Rattle.alternative_lines.proofs.numbered.put_line.Goals as goal

pub returns : goal.returns
unfolding bytes
returns c = line_put _ _ _ _ c.put_mark-p.ensures c.put_steps-q.ensures c.put.ensures
