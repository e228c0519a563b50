-- `push` meets its contract.
use Rattle.alternative_texts.proofs.Clipped.{beyond}
use Rattle.alternative_texts.proofs.puts.push.Goals as goal

pub returns-then-out-at : goal.returns-then-out-at
returns-then-out-at c = beyond _ c.if-out-at.true
