-- `table::table_line` meets its contract.
use Rattle.jobs.proofs.TableLines.{counted_few}
use Rattle.jobs.proofs.table.table_line.Goals as goal

pub write_counted-written-requires : goal.write_counted-written-requires
write_counted-written-requires c = counted_few c.count_text-counted.ensures
