use native.Mathlib.Omega.{arith}
use Rattle.beginnings.proofs.Marking.{row_asked, marking_first, marking_next, marking_end}
use Rattle.beginnings.proofs.Marking.{given_length, began_length}
use Rattle.beginnings.proofs.times.mark.Goals as goal

pub loop-r-init : goal.loop-r-init
loop-r-init c = marking_first

pub bounds-answers-r : goal.bounds-answers-r
bounds-answers-r c = omega (arith, c.requires.answers_all, c.loop-r-test.true)

pub offset_bounds-tried-r : goal.offset_bounds-tried-r
offset_bounds-tried-r c = omega (arith, c.requires.few, c.loop-r-test.true)

pub bounds-tried-r : goal.bounds-tried-r
bounds-tried-r c = omega (arith, c.requires.tried_all, c.loop-r-test.true)

pub began_at-b-requires : goal.began_at-b-requires
began_at-b-requires c = row_asked c.requires c.loop-r-test.true

pub bounds-given-r : goal.bounds-given-r
bounds-given-r c =
    omega (arith, given_length c.loop-r.invariant, c.requires.given_room, c.loop-r-test.true)

pub offset_bounds-began-r : goal.offset_bounds-began-r
offset_bounds-began-r c = omega (arith, c.requires.few, c.loop-r-test.true)

pub bounds-began-r : goal.bounds-began-r
bounds-began-r c =
    omega (arith, began_length c.loop-r.invariant, c.requires.began_room, c.loop-r-test.true)

pub loop-r-preserved : goal.loop-r-preserved
loop-r-preserved c =
    marking_next c.loop-r.invariant c.loop-r-test.true c.began_at-b.ensures
    c.given_of.ensures c.time_of.ensures

pub shape_of-given : goal.shape_of-given
shape_of-given c = given_length c.loop-r.invariant

pub shape_of-began : goal.shape_of-began
shape_of-began c = began_length c.loop-r.invariant

pub returns : goal.returns
returns c =
    marking_end c.loop-r.invariant c.loop-r-test.false c.requires.given_room c.requires.began_room
