use native.Mathlib.Omega.{arith}
use Rattle.rewriting.proofs.Bounds.{ready_ends, count_exact, ready_shaping}
use Rattle.rewriting.proofs.Filling.{filling_first, filling_lengths}
use Rattle.rewriting.proofs.Turns.{steps_small, steps_room, alternative_adding, passed_small, alternative_next}
use Rattle.rewriting.proofs.Turns.{alternatives_filled}
use Rattle.rewriting.proofs.lists.fill.Goals as goal

pub count_at-count-requires : goal.count_at-count-requires
count_at-count-requires c = (c.requires.1.counts, ready_ends c.requires.0.ready)

pub loop-t-init : goal.loop-t-init
loop-t-init c = filling_first

pub shape_of-x-requires-in-loop-t : goal.shape_of-x-requires-in-loop-t
shape_of-x-requires-in-loop-t c =
    let e = count_exact _ _ _ c.requires.0.ready c.count_at-count.ensures in
    record {
      shaping = ready_shaping _ _ _ c.requires.0.ready (omega (arith, e, c.loop-t-test.true));
      noted = c.requires.1;
    }

pub overflow_cast-steps : goal.overflow_cast-steps
overflow_cast-steps c =
    let e = count_exact _ _ _ c.requires.0.ready c.count_at-count.ensures in
    let r =
    steps_small c.requires.0 c.loop-t.invariant (omega (arith, e, c.loop-t-test.true)) c.shape_of-x.ensures
    in
    omega arith

pub bounds-steps-t : goal.bounds-steps-t
bounds-steps-t c =
    let e = count_exact _ _ _ c.requires.0.ready c.count_at-count.ensures in
    steps_room c.requires.0 c.loop-t.invariant (omega (arith, e, c.loop-t-test.true)) c.shape_of-x.ensures

pub put_alternative-from-requires : goal.put_alternative-from-requires
put_alternative-from-requires c =
    let e = count_exact _ _ _ c.requires.0.ready c.count_at-count.ensures in (
      alternative_adding c.requires.0 c.loop-t.invariant (omega (arith, e, c.loop-t-test.true))
          c.shape_of-x.ensures,
      c.requires.1,
    )

pub overflow_add-s : goal.overflow_add-s
overflow_add-s c =
    let e = count_exact _ _ _ c.requires.0.ready c.count_at-count.ensures in
    let r =
    passed_small c.requires.0 c.loop-t.invariant (omega (arith, e, c.loop-t-test.true)) c.shape_of-x.ensures
    in
    omega arith

pub loop-t-preserved : goal.loop-t-preserved
loop-t-preserved c =
    let e = count_exact _ _ _ c.requires.0.ready c.count_at-count.ensures in
    alternative_next c.requires.0 c.loop-t.invariant (omega (arith, e, c.loop-t-test.true)) c.shape_of-x.ensures
    c.put_alternative-from.ensures

pub shape_of-steps : goal.shape_of-steps
shape_of-steps c = (filling_lengths c.loop-t.invariant).0

pub shape_of-tests : goal.shape_of-tests
shape_of-tests c = (filling_lengths c.loop-t.invariant).1

pub shape_of-edges : goal.shape_of-edges
shape_of-edges c = (filling_lengths c.loop-t.invariant).2

pub shape_of-operands : goal.shape_of-operands
shape_of-operands c = (filling_lengths c.loop-t.invariant).3

pub returns : goal.returns
returns c =
    let e = count_exact _ _ _ c.requires.0.ready c.count_at-count.ensures in
    alternatives_filled c.requires.0 c.loop-t.invariant (omega (arith, e, c.loop-t-test.false))
