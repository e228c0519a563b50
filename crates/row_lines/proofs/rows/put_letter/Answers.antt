-- `put_letter` meets its contract.
use Rattle.row_lines.proofs.RowParts.{letter_put}
use Rattle.row_lines.proofs.rows.put_letter.Goals as goal

pub returns : goal.returns
returns c = letter_put _ c.letter_of.ensures c.push-p.ensures c.push.ensures
