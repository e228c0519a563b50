use Prim.Native.Nat.{◌+◌}
use native.Mathlib.Omega.{arith}
use Rattle.blocks.proofs.Passes.{stepping_first, tests_reach, step_asked, stepping_next, stepping_end}
use Rattle.blocks.proofs.meeting.meet_steps.Goals as goal

pub put-requires : goal.put-requires
put-requires c = c.requires.room

pub loop-j-init : goal.loop-j-init
loop-j-init c = stepping_first c.requires c.put.ensures

pub overflow_add-q : goal.overflow_add-q
overflow_add-q c = omega (arith, c.requires.there, c.well_formed)

pub bounds-tests-s : goal.bounds-tests-s
bounds-tests-s c = omega (arith, c.requires.there)

pub overflow_cast-q : goal.overflow_cast-q
overflow_cast-q c = omega (arith, c.type_inv.tests (c.args.s + c.loop-j.j))

pub overflow_sub-n : goal.overflow_sub-n
overflow_sub-n c = c.requires.short

pub overflow_add-n : goal.overflow_add-n
overflow_add-n c = omega (arith, c.requires.short)

pub meet_step-requires : goal.meet_step-requires
meet_step-requires c = step_asked c.requires c.loop-j.invariant c.loop-j-test.true

pub overflow_add-at : goal.overflow_add-at
overflow_add-at c =
    omega (
      arith,
      tests_reach c.requires c.loop-j.invariant c.loop-j-test.true,
      c.requires.tested,
      c.well_formed,
    )

pub loop-j-preserved : goal.loop-j-preserved
loop-j-preserved c =
    stepping_next c.requires c.loop-j.invariant c.loop-j-test.true
    c.meet_step.ensures

pub shape_of-acc : goal.shape_of-acc
shape_of-acc c = (stepping_end c.requires c.loop-j.invariant c.put.ensures c.loop-j-test.false).long

pub returns : goal.returns
returns c = stepping_end c.requires c.loop-j.invariant c.put.ensures c.loop-j-test.false
