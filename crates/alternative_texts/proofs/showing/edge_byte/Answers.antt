-- `edge_byte` meets its contract.
use Rattle.alternative_texts.proofs.PartBytes.{edge_low, edge_high}
use Rattle.alternative_texts.proofs.showing.edge_byte.Goals as goal

pub returns-then-number-lt82 : goal.returns-then-number-lt82
returns-then-number-lt82 c = edge_low _ c.if-number-lt82.true

pub returns : goal.returns
returns c = edge_high _ c.if-number-lt82.false
