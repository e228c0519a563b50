use Prim.Native.Nat.{◌+◌}
use native.Mathlib.Omega.{arith}
use Rattle.blocks.proofs.Passes.{asking_first, column, pass_asked, asking_next, asking_end}
use Rattle.blocks.proofs.meeting.meet_step.Goals as goal

pub loop-i-init : goal.loop-i-init
loop-i-init c = asking_first c.requires

pub overflow_add-slot : goal.overflow_add-slot
overflow_add-slot c = omega (arith, c.requires.there, c.well_formed)

pub bounds-slots-t : goal.bounds-slots-t
bounds-slots-t c = omega (arith, c.requires.there)

pub overflow_cast-slot : goal.overflow_cast-slot
overflow_cast-slot c = omega (arith, c.type_inv.slots (c.args.t + c.loop-i.i))

pub overflow_mul-slot : goal.overflow_mul-slot
overflow_mul-slot c =
    omega (
      arith,
      column c.requires c.loop-i.invariant c.loop-i-test.true,
      c.well_formed,
    )

pub overflow_add-slot-in-loop-i : goal.overflow_add-slot-in-loop-i
overflow_add-slot-in-loop-i c =
    omega (
      arith,
      column c.requires c.loop-i.invariant c.loop-i-test.true,
      c.requires.wide,
      c.well_formed,
    )

pub meet-requires : goal.meet-requires
meet-requires c = pass_asked c.requires c.loop-i.invariant c.loop-i-test.true

pub loop-i-preserved : goal.loop-i-preserved
loop-i-preserved c =
    asking_next c.requires c.loop-i.invariant c.loop-i-test.true
    c.meet.ensures

pub shape_of-acc : goal.shape_of-acc
shape_of-acc c = c.loop-i.invariant.long

pub returns : goal.returns
returns c = asking_end c.requires c.loop-i.invariant c.loop-i-test.false
