-- `put_half` meets its contract, by the table of halves.
use Rattle.spelling.proofs.Tables.{half_table}
use Rattle.spelling.proofs.halves.put_half.Goals as goal

pub returns : goal.returns
returns c = rw (← half_table _ c.requires.known) c.push.ensures
