use native.Mathlib.Omega.{arith}
use Rattle.step_tests.proofs.Puts.{put_lengths}
use Rattle.step_tests.proofs.PinPuts.{first_pin, pin_room, next_pin, all_pins}
use Rattle.step_tests.proofs.pins.put_pins.Goals as goal

pub overflow_sub-base : goal.overflow_sub-base
overflow_sub-base c = omega (arith, c.requires.entries.some)

pub overflow_mul-base : goal.overflow_mul-base
overflow_mul-base c = omega (arith, c.requires.entries.few)

pub loop-k-init : goal.loop-k-init
loop-k-init c = first_pin

pub overflow_add-base : goal.overflow_add-base
overflow_add-base c =
    let h = c.requires in
    omega (arith, h.entries.few, h.upto)

pub bounds-pins-base : goal.bounds-pins-base
bounds-pins-base c =
    let h = c.requires in
    omega (arith, h.entries.few, h.entries.some, h.upto)

pub put_pin-at-requires : goal.put_pin-at-requires
put_pin-at-requires c = pin_room c.loop-k.invariant c.requires c.loop-k-test.true

pub loop-k-preserved : goal.loop-k-preserved
loop-k-preserved c = next_pin c.loop-k.invariant c.loop-k-test.true c.put_pin-at.ensures

pub shape_of-edges : goal.shape_of-edges
shape_of-edges c = (put_lengths c.loop-k.invariant.put).0

pub shape_of-operands : goal.shape_of-operands
shape_of-operands c = (put_lengths c.loop-k.invariant.put).1

pub returns : goal.returns
returns c = all_pins c.loop-k.invariant c.loop-k-test.false
