use Rattle.row_lines.proofs.InTurn.{written_first, written_room, written_next, written_end, written_length}
use Rattle.began_lines.specs.BeganListing.{began_lines}
use Rattle.began_listings.proofs.rows.put_rows.Goals as goal

pub loop-i-init : goal.loop-i-init
unfolding began_lines
loop-i-init c = written_first _ _ c.requires.room

pub put_row-p-requires : goal.put_row-p-requires
put_row-p-requires c =
    record {
      rows = c.requires.rows;
      there = c.loop-i-test.true;
      room = written_room c.loop-i.invariant c.loop-i-test.true;
    }

pub loop-i-preserved : goal.loop-i-preserved
loop-i-preserved c = written_next c.loop-i.invariant c.loop-i-test.true c.put_row-p.ensures

pub shape_of-out : goal.shape_of-out
shape_of-out c = written_length c.loop-i.invariant

pub returns : goal.returns
unfolding began_lines
returns c = written_end c.loop-i.invariant c.loop-i-test.false
