-- `put_mark` meets its contract.
use Rattle.alternative_lines.proofs.LineParts.{mark_put}
use Rattle.alternative_lines.proofs.numbered.put_mark.Goals as goal

pub returns : goal.returns
returns c = mark_put _ _ c.put_number-p.ensures c.put_note.ensures
