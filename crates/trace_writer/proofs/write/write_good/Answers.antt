-- `write_good` meets its contract: the file is its names, its rows and its end, one behind the other.
use native.Mathlib.Omega.{arith}
use Rattle.trace_writer.proofs.WriteOutcomes.{names_lent, times_lent, sizes_small, writes_9, slots_fit}
use Rattle.trace_writer.proofs.WriteOutcomes.{rows_fit, end_fits, file_written}
use Rattle.trace_writer.proofs.write.write_good.Goals as goal

pub names_size-requires : goal.names_size-requires
names_size-requires c = names_lent c.requires

pub rows_size-requires : goal.rows_size-requires
rows_size-requires c = times_lent c.requires

pub overflow_add-size : goal.overflow_add-size
overflow_add-size c = omega (arith, sizes_small c.requires c.names_size.ensures c.rows_size.ensures)

pub overflow_add-size-2 : goal.overflow_add-size-2
overflow_add-size-2 c = omega (arith, sizes_small c.requires c.names_size.ensures c.rows_size.ensures)

pub returns-then-out-size : goal.returns-then-out-size
returns-then-out-size c =
    writes_9 c.requires _ c.names_size.ensures c.rows_size.ensures c.refuse.ensures
    c.if-out-size.true

pub put_names-rows-requires : goal.put_names-rows-requires
put_names-rows-requires c =
    slots_fit c.requires _ c.names_size.ensures c.rows_size.ensures c.if-out-size.false

pub put_rows-end-requires : goal.put_rows-end-requires
put_rows-end-requires c =
    rows_fit c.requires _ c.names_size.ensures c.rows_size.ensures
    c.if-out-size.false c.put_names-rows.ensures

pub put_end-requires : goal.put_end-requires
put_end-requires c =
    end_fits c.requires _ c.names_size.ensures c.rows_size.ensures
    c.if-out-size.false c.put_names-rows.ensures c.put_rows-end.ensures

pub returns : goal.returns
returns c =
    file_written c.requires _ c.names_size.ensures c.rows_size.ensures
    c.if-out-size.false c.put_names-rows.ensures c.put_rows-end.ensures
    c.put_end.ensures
