-- `totals::count_rows` meets its contract.
use native.Mathlib.Omega.{arith}
use Rattle.block_totals.proofs.totals.count_rows.Goals as goal

pub count_with-requires : goal.count_with-requires
count_with-requires c =
    record {
      rows_asked = c.requires.rows_asked;
      suited = c.requires.suited;
      scratch =
          record {
            kinds_room = omega arith;
            ends_room = omega arith;
            slots_room = omega arith;
            tables_room = omega arith;
            cols_room = omega arith;
          };
    }
