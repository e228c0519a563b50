use native.Mathlib.Omega.{arith}
use Rattle.rewriting.proofs.Filling.{walking_first, walking_lengths}
use Rattle.rewriting.proofs.Turns.{step_stepping, step_rises, step_small, step_next, counts_room, steps_added}
use Rattle.rewriting.proofs.lists.put_alternative.Goals as goal

pub loop-j-init : goal.loop-j-init
loop-j-init c = walking_first

pub put_step-next-requires : goal.put_step-next-requires
put_step-next-requires c = step_stepping c.requires.0 c.loop-j.invariant c.loop-j-test.true c.requires.1

pub overflow_sub-tests : goal.overflow_sub-tests
overflow_sub-tests c =
    let r =
    step_rises c.requires.0 c.loop-j.invariant c.loop-j-test.true c.put_step-next.ensures
    in
    omega (arith, r.0, r.1)

pub overflow_cast-tests : goal.overflow_cast-tests
overflow_cast-tests c =
    let l = c.loop-j-test.true in
    let r = step_small c.requires.0 c.loop-j.invariant l c.put_step-next.ensures in
    let u = step_rises c.requires.0 c.loop-j.invariant l c.put_step-next.ensures in
    omega (arith, u.0)

pub overflow_add-tests : goal.overflow_add-tests
overflow_add-tests c =
    let r = counts_room c.requires.0 c.loop-j.invariant c.loop-j-test.true in
    omega (arith, r, (walking_lengths c.loop-j.invariant).0, c.well_formed)

pub bounds-tests-s : goal.bounds-tests-s
bounds-tests-s c = counts_room c.requires.0 c.loop-j.invariant c.loop-j-test.true

pub loop-j-preserved : goal.loop-j-preserved
loop-j-preserved c =
    step_next c.requires.0 c.loop-j.invariant c.loop-j-test.true c.put_step-next.ensures

pub shape_of-tests : goal.shape_of-tests
shape_of-tests c = (walking_lengths c.loop-j.invariant).0

pub shape_of-edges : goal.shape_of-edges
shape_of-edges c = (walking_lengths c.loop-j.invariant).1

pub shape_of-operands : goal.shape_of-operands
shape_of-operands c = (walking_lengths c.loop-j.invariant).2

pub returns : goal.returns
returns c = steps_added c.requires.0 c.loop-j.invariant c.loop-j-test.false
