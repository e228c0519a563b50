-- `put_row` meets its contract.
use native.Mathlib.Omega.{arith}
use Rattle.trace_format.proofs.Numbers.{bytes_length}
use Rattle.record_puts.proofs.PutRecords.{row_put, time_fits}
use Rattle.record_puts.proofs.puts.put_row.Goals as goal

pub put_mark-marked-requires : goal.put_mark-marked-requires
put_mark-marked-requires c = omega (arith, c.requires.room)

pub put_time-timed-requires : goal.put_time-timed-requires
put_time-timed-requires c = time_fits c.requires c.width_of-w.ensures c.put_mark-marked.ensures

pub put-requires : goal.put-requires
put-requires c =
    omega (
      arith,
      c.requires.room,
      c.width_of-w.ensures.is,
      c.put_time-timed.ensures.next,
      c.put_mark-marked.ensures.next,
      bytes_length c.width_of-w.result c.args.time.0,
    )

pub returns : goal.returns
returns c =
    row_put _ c.width_of-w.ensures c.letter_of.ensures c.put_mark-marked.ensures
    c.put_time-timed.ensures c.put.ensures
