-- `answers::fill_with` meets its contract.
use native.Mathlib.Omega.{arith}
use borrow.Author.Rules.{rules}
use Rattle.blocks.proofs.Suiting.{prepare_asked, blocks_asked_lem}
use Rattle.block_answers.proofs.answers.fill_with.Goals as goal

pub prepare-many-requires : goal.prepare-many-requires
prepare-many-requires c = prepare_asked c.requires.fill_asked.asked.shape c.requires.suited c.requires.scratch

pub fill_blocks-requires : goal.fill_blocks-requires
fill_blocks-requires c =
    record {
      fill_asked = c.requires.fill_asked;
      blocks_asked = blocks_asked_lem c.requires.fill_asked.asked.shape c.requires.suited c.requires.scratch (search rules) (search rules)
          (search rules) c.prepare-many.ensures (omega (arith, c.if-many-gt64.false));
    }
