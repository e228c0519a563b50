use native.Mathlib.Omega.{arith}
use Rattle.basics.proofs.PartByPart.{going_length}
use Rattle.basics.proofs.Stores.{writing_length}
use Rattle.text_copies.proofs.CopiedRows.{filling_first, filling_in, filling_room, filling_times, filling_timed}
use Rattle.text_copies.proofs.CopiedRows.{filling_next, filled_all}
use Rattle.text_copies.proofs.copies.copy_rows.Goals as goal

pub next_line-line-requires : goal.next_line-line-requires
next_line-line-requires c = c.requires.within

pub loop-r-init : goal.loop-r-init
loop-r-init c = filling_first c.requires c.next_line-line.ensures

pub row_time-requires : goal.row_time-requires
row_time-requires c = filling_in c.requires c.loop-r.invariant c.loop-r-test.true

pub unwrap-requires : goal.unwrap-requires
unwrap-requires c = filling_timed c.requires c.loop-r.invariant c.loop-r-test.true _ c.row_time.ensures

pub offset_bounds-times-r : goal.offset_bounds-times-r
offset_bounds-times-r c =
    omega (
      arith,
      filling_times c.requires c.loop-r.invariant c.loop-r-test.true,
    )

pub bounds-times-r : goal.bounds-times-r
bounds-times-r c =
    filling_times c.requires c.loop-r.invariant
    c.loop-r-test.true

pub put_codes-to-requires : goal.put_codes-to-requires
put_codes-to-requires c =
    filling_room c.requires c.loop-r.invariant
    c.loop-r-test.true

pub behind_line-behind-requires : goal.behind_line-behind-requires
behind_line-behind-requires c = c.loop-r.invariant.next.within

pub next_line-line-requires-in-loop-r : goal.next_line-line-requires-in-loop-r
next_line-line-requires-in-loop-r c = c.behind_line-behind.ensures.within

pub loop-r-preserved : goal.loop-r-preserved
loop-r-preserved c =
    filling_next c.requires c.loop-r.invariant c.loop-r-test.true
    _ c.row_time.ensures c.unwrap.ensures c.put_codes-to.ensures c.behind_line-behind.ensures
    c.next_line-line-in-loop-r.ensures

pub shape_of-times : goal.shape_of-times
shape_of-times c = writing_length c.loop-r.invariant.writing

pub shape_of-states : goal.shape_of-states
shape_of-states c = going_length c.loop-r.invariant.going

pub returns : goal.returns
returns c = filled_all c.requires c.loop-r.invariant c.loop-r-test.false
