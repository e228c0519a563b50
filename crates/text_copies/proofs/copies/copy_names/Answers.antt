use native.Mathlib.Omega.{arith}
use Rattle.basics.proofs.PartByPart.{going_length}
use Rattle.text_copies.proofs.Copying.{copied_first, slot_fits, copied_next, copied_all}
use Rattle.text_copies.proofs.copies.copy_names.Goals as goal

pub find_word-word-requires : goal.find_word-word-requires
find_word-word-requires c = c.requires.within

pub loop-i-init : goal.loop-i-init
loop-i-init c = copied_first c.requires c.find_word-word.ensures

pub slice_bounds-put_slot-count : goal.slice_bounds-put_slot-count
slice_bounds-put_slot-count c = omega (arith, c.loop-i.invariant.found.run.low)

pub slice_bounds-put_slot-start : goal.slice_bounds-put_slot-start
slice_bounds-put_slot-start c = omega (arith, c.loop-i.invariant.found.run.low)

pub slice_bounds-put_slot-end : goal.slice_bounds-put_slot-end
slice_bounds-put_slot-end c = omega (arith, c.loop-i.invariant.found.run.within)

pub put_slot-at-requires : goal.put_slot-at-requires
put_slot-at-requires c = slot_fits c.requires c.loop-i.invariant c.loop-i-test.true

pub find_word-word-requires-in-loop-i : goal.find_word-word-requires-in-loop-i
find_word-word-requires-in-loop-i c =
    let found = c.loop-i.invariant.found in
    omega (arith, found.run.low, found.run.within)

pub loop-i-preserved : goal.loop-i-preserved
loop-i-preserved c =
    copied_next c.requires c.loop-i.invariant c.loop-i-test.true
    c.put_slot-at.ensures c.find_word-word-in-loop-i.ensures

pub shape_of-out : goal.shape_of-out
shape_of-out c = going_length c.loop-i.invariant.going

pub returns : goal.returns
returns c = copied_all c.requires c.loop-i.invariant c.loop-i-test.false
