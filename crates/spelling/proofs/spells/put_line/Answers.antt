use Rattle.spelling.proofs.Steps.{line_going, line_done, line_start}
use native.Mathlib.Omega.{arith}
use Rattle.basics.proofs.PartByPart.{going_room, going_on, going_length}
use Rattle.spelling.proofs.spells.put_line.Goals as goal

pub loop-i-init : goal.loop-i-init
loop-i-init c = (omega arith, line_start c.requires)

pub put_gap-p-requires : goal.put_gap-p-requires
put_gap-p-requires c =
    going_room (line_going _ _ _ _ c.requires.there c.loop-i-test.true c.loop-i.invariant.1)

pub put_word-at-requires : goal.put_word-at-requires
put_word-at-requires c =
    let next = line_going _ _ _ _ c.requires.there c.loop-i-test.true c.loop-i.invariant.1 in
    record {
      sign = c.requires.signs _ c.loop-i-test.true;
      room = going_room (going_on next c.put_gap-p.ensures);
    }

pub loop-i-preserved : goal.loop-i-preserved
loop-i-preserved c =
    let next = line_going _ _ _ _ c.requires.there c.loop-i-test.true c.loop-i.invariant.1 in
    (omega arith, going_on (going_on next c.put_gap-p.ensures) c.put_word-at.ensures)

pub shape_of-out : goal.shape_of-out
shape_of-out c = going_length c.loop-i.invariant.1

pub returns : goal.returns
returns c = line_done _ _ _ _ c.requires.there c.loop-i-test.false c.loop-i.invariant.1
