use Rattle.row_lines.specs.Lines.{members}
use Rattle.row_lines.proofs.InTurn.{written_first, written_room, written_next, written_end}
use Rattle.row_lines.proofs.InTurn.{written_length}
use Rattle.row_lines.proofs.NameSets.{slot_in}
use Rattle.row_lines.proofs.marked.put_members.Goals as goal

pub loop-i-init : goal.loop-i-init
unfolding members
loop-i-init c = written_first _ _ c.requires.room

pub put_member-p-requires : goal.put_member-p-requires
put_member-p-requires c =
    record {
      slot = slot_in c.requires.slots c.loop-i-test.true;
      room = written_room c.loop-i.invariant c.loop-i-test.true;
    }

pub loop-i-preserved : goal.loop-i-preserved
loop-i-preserved c =
    written_next c.loop-i.invariant c.loop-i-test.true c.put_member-p.ensures

pub shape_of-out : goal.shape_of-out
shape_of-out c = written_length c.loop-i.invariant

pub returns : goal.returns
unfolding members
returns c = written_end c.loop-i.invariant c.loop-i-test.false
