use native.Mathlib.Omega.{arith}
use Rattle.blocks.proofs.Columns.{numbering_first, slot_room, find_asked, add_asked, numbering_next}
use Rattle.blocks.proofs.Columns.{numbering_end, numbered_none}
use Rattle.blocks.proofs.numbering.number.Goals as goal

pub loop-t-init : goal.loop-t-init
loop-t-init c = numbering_first c.requires

pub offset_bounds-lists-t : goal.offset_bounds-lists-t
offset_bounds-lists-t c = omega (arith, c.requires.enough, c.well_formed)

pub bounds-lists-t-in-loop-t : goal.bounds-lists-t-in-loop-t
bounds-lists-t-in-loop-t c = omega (arith, c.requires.enough)

pub find-c-requires : goal.find-c-requires
find-c-requires c = find_asked c.requires c.loop-t.invariant c.loop-t-test.true

pub shape_of-kinds-then-c-eq64 : goal.shape_of-kinds-then-c-eq64
shape_of-kinds-then-c-eq64 c = c.loop-t.invariant.kinds_long

pub shape_of-ends-then-c-eq64 : goal.shape_of-ends-then-c-eq64
shape_of-ends-then-c-eq64 c = c.loop-t.invariant.ends_long

pub shape_of-slots-then-c-eq64 : goal.shape_of-slots-then-c-eq64
shape_of-slots-then-c-eq64 c = c.loop-t.invariant.slots_long

pub returns-then-c-eq64 : goal.returns-then-c-eq64
returns-then-c-eq64 c = numbered_none

pub add-many-requires : goal.add-many-requires
add-many-requires c =
    add_asked c.requires c.loop-t.invariant c.loop-t-test.true c.find-c.ensures
    c.if-c-eq64.false

pub overflow_cast-slots : goal.overflow_cast-slots
overflow_cast-slots c = omega (arith, c.find-c.ensures.within, c.loop-t.invariant.few)

pub bounds-slots-t : goal.bounds-slots-t
bounds-slots-t c = slot_room c.requires c.loop-t.invariant c.loop-t-test.true

pub loop-t-preserved : goal.loop-t-preserved
loop-t-preserved c =
    numbering_next c.requires c.loop-t.invariant c.loop-t-test.true c.find-c.ensures
    c.if-c-eq64.false c.add-many.ensures

pub shape_of-kinds : goal.shape_of-kinds
shape_of-kinds c = c.loop-t.invariant.kinds_long

pub shape_of-ends : goal.shape_of-ends
shape_of-ends c = c.loop-t.invariant.ends_long

pub shape_of-slots : goal.shape_of-slots
shape_of-slots c = c.loop-t.invariant.slots_long

pub returns : goal.returns
returns c = numbering_end c.requires c.loop-t.invariant c.loop-t-test.false
