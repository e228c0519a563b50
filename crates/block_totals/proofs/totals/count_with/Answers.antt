-- `totals::count_with` meets its contract.
use native.Mathlib.Omega.{arith}
use borrow.Author.Rules.{rules}
use Rattle.blocks.proofs.Suiting.{prepare_asked, blocks_asked_lem}
use Rattle.block_totals.proofs.totals.count_with.Goals as goal

pub prepare-many-requires : goal.prepare-many-requires
prepare-many-requires c = prepare_asked c.requires.rows_asked.shape c.requires.suited c.requires.scratch

pub count_blocks-requires : goal.count_blocks-requires
count_blocks-requires c =
    record {
      rows_asked = c.requires.rows_asked;
      blocks_asked = blocks_asked_lem c.requires.rows_asked.shape c.requires.suited c.requires.scratch (search rules) (search rules)
          (search rules) c.prepare-many.ensures (omega (arith, c.if-many-gt64.false));
    }
