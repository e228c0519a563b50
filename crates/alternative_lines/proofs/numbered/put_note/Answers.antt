-- `put_note` meets its contract.
use Rattle.basics.specs.Text.{bytes}
use Rattle.alternative_lines.proofs.LineParts.{note_none, note_some}
use Rattle.alternative_lines.proofs.numbered.put_note.Goals as goal

pub returns-then-flag-eq0 : goal.returns-then-flag-eq0
unfolding bytes
returns-then-flag-eq0 c = note_none c.if-flag-eq0.true c.put.ensures

pub returns : goal.returns
unfolding bytes
returns c = note_some c.if-flag-eq0.false c.put-2.ensures
