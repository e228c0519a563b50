-- `put_name` meets its contract.
use Rattle.record_puts.proofs.PutRecords.{name_put}
use Rattle.record_puts.proofs.puts.put_name.Goals as goal

pub returns : goal.returns
returns c = name_put c.put_mark-marked.ensures c.push-measured.ensures c.put.ensures
