-- `cuts::read` meets its contract.
use Rattle.answer_table.proofs.Stored.{stored_at}
use Rattle.answer_table.proofs.cuts.read.Goals as goal

pub returns : goal.returns
returns c = stored_at _ _ _ _ c.requires.some
