use Rattle.named_pins.proofs.Joined.{marking_first, marking_length, marking_next, marking_end}
use Rattle.named_pins.proofs.marking.mark_names.Goals as goal

pub loop-b-init : goal.loop-b-init
loop-b-init c = marking_first

pub loop-b-preserved : goal.loop-b-preserved
loop-b-preserved c = marking_next c.loop-b.invariant c.loop-b-test.true c.mark.ensures

pub shape_of-kept : goal.shape_of-kept
shape_of-kept c = marking_length c.loop-b.invariant

pub returns : goal.returns
returns c = marking_end c.loop-b.invariant c.loop-b-test.false
