use native.Mathlib.Omega.{arith}
use Rattle.answer_table.proofs.Stored.{part_first, part_next, part_last}
use Rattle.answer_table.proofs.Kept.{part_kept, operated_kept}
use Rattle.answer_table.proofs.parts.operator_part.Goals as goal

pub loop-a-init : goal.loop-a-init
loop-a-init c = (omega arith, part_first c.requires.long)

pub operator_row-requires : goal.operator_row-requires
operator_row-requires c =
    let s = c.requires in
    record {
      from = c.loop-a-test.true;
      part = record {
        byte = s.byte;
        most = s.most;
        left = s.left;
        right = s.right;
        room = s.room;
        long = c.loop-a.invariant.1.long;
      };
    }

pub loop-a-preserved : goal.loop-a-preserved
loop-a-preserved c =
    let s = c.requires in
    let t = c.loop-a-test.true in
    let p = c.loop-a.invariant.1 in (
      omega arith,
      part_next p c.operator_row.ensures s.most t (λ b k o.
          operated_kept _ _ _ _ _ _ _ k (omega (arith, s.most)) (part_kept _ p s.left) (part_kept _ p s.right)),
    )

pub returns : goal.returns
returns c = part_last c.loop-a.invariant.1 c.loop-a-test.false
