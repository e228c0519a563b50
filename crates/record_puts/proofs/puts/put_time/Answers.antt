-- `put_time` meets its contract: eight bytes are four and four.
use Rattle.record_puts.proofs.PutRecords.{time_front, time_short, time_room, time_long}
use Rattle.record_puts.proofs.puts.put_time.Goals as goal

pub put_word-low-requires : goal.put_word-low-requires
put_word-low-requires c = time_front c.requires

pub returns-then-w-eq4 : goal.returns-then-w-eq4
returns-then-w-eq4 c = time_short _ c.requires c.put_word-low.ensures c.if-w-eq4.true

pub put_word-requires : goal.put_word-requires
put_word-requires c = time_room _ c.requires c.put_word-low.ensures c.if-w-eq4.false

pub returns : goal.returns
returns c = time_long _ c.requires c.put_word-low.ensures c.if-w-eq4.false c.put_word.ensures
