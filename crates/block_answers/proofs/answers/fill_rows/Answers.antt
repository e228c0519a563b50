-- `answers::fill_rows` meets its contract.
use native.Mathlib.Omega.{arith}
use Rattle.block_answers.proofs.answers.fill_rows.Goals as goal

pub fill_with-requires : goal.fill_with-requires
fill_with-requires c =
    record {
      fill_asked = c.requires.fill_asked;
      suited = c.requires.suited;
      scratch =
          record {
            kinds_room = omega arith;
            ends_room = omega arith;
            slots_room = omega arith;
            tables_room = omega arith;
            cols_room = omega arith;
          };
    }
