-- `matcher::answers::match_row` meets its contract.
use Rattle.matcher.proofs.Matching.{no_event}
use Rattle.matcher.proofs.answers.match_row.Goals as goal

pub returns-then-row-eq0 : goal.returns-then-row-eq0
returns-then-row-eq0 c = no_event _ _ _ c.if-row-eq0.true
