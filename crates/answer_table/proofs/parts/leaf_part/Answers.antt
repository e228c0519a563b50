use mathlib.Core.Path.{refl}
use native.Mathlib.Omega.{arith}
use Rattle.answer_table.proofs.Stored.{part_first, part_next, part_last}
use Rattle.answer_table.proofs.parts.leaf_part.Goals as goal

pub loop-a-init : goal.loop-a-init
loop-a-init c = (omega arith, part_first c.requires.long)

pub leaf_row-requires : goal.leaf_row-requires
leaf_row-requires c =
    let s = c.requires in
    record {
      from = c.loop-a-test.true;
      part = record {
        most = s.most;
        codes = s.codes;
        cells = s.cells;
        room = s.room;
        long = c.loop-a.invariant.1.long;
      };
    }

pub loop-a-preserved : goal.loop-a-preserved
loop-a-preserved c =
    let s = c.requires in
    let t = c.loop-a-test.true in
    (omega arith, part_next c.loop-a.invariant.1 c.leaf_row.ensures s.most t (λ b k o. refl))

pub returns : goal.returns
returns c = part_last c.loop-a.invariant.1 c.loop-a-test.false
