-- `put_end` meets its contract.
use Rattle.record_puts.proofs.PutRecords.{end_put}
use Rattle.record_puts.proofs.puts.put_end.Goals as goal

pub returns : goal.returns
returns c = end_put _ c.put_mark-marked.ensures c.put_word.ensures
