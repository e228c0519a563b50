use native.Mathlib.Omega.{arith}
use Rattle.acceptance.proofs.MeasuredPins.{first_at, next_at, all_at, shaping_at}
use Rattle.acceptance.proofs.MeasuredPins.{over_number_at, over_steps_at, over_tests_at, within_at}
use Rattle.acceptance.proofs.sizes.measure_pinned.Goals as goal

pub count_at-n-requires : goal.count_at-n-requires
count_at-n-requires c = (c.requires.1.counts, c.requires.0.ends)

pub returns-then-n-gt64 : goal.returns-then-n-gt64
returns-then-n-gt64 c = over_number_at c.count_at-n.ensures c.if-n-gt64.true

pub loop-t-init : goal.loop-t-init
loop-t-init c = (omega arith, first_at)

pub shape_of-x-requires-in-loop-t : goal.shape_of-x-requires-in-loop-t
shape_of-x-requires-in-loop-t c =
    record {
      shaping = shaping_at c.requires.0 c.count_at-n.ensures c.if-n-gt64.false c.loop-t-test.true;
      noted = c.requires.1;
    }

pub loop-t-preserved : goal.loop-t-preserved
loop-t-preserved c =
    let here =
    shaping_at c.requires.0 c.count_at-n.ensures c.if-n-gt64.false c.loop-t-test.true in
    let m = next_at c.loop-t.invariant.1 here c.shape_of-x.ensures in
    (omega arith, rw (c.max-steps.ensures, c.max-tests.ensures) m)

pub returns-then-steps-gt16 : goal.returns-then-steps-gt16
returns-then-steps-gt16 c =
    over_steps_at c.count_at-n.ensures
    (all_at c.loop-t.invariant.1 c.loop-t.invariant.0 c.loop-t-test.false) c.if-n-gt64.false c.if-steps-gt16.true

pub returns-then-tests-gt64 : goal.returns-then-tests-gt64
returns-then-tests-gt64 c =
    over_tests_at c.count_at-n.ensures
    (all_at c.loop-t.invariant.1 c.loop-t.invariant.0 c.loop-t-test.false) c.if-n-gt64.false c.if-steps-gt16.false
    c.if-tests-gt64.true

pub returns : goal.returns
returns c =
    within_at c.count_at-n.ensures
    (all_at c.loop-t.invariant.1 c.loop-t.invariant.0 c.loop-t-test.false) c.if-n-gt64.false c.if-steps-gt16.false
    c.if-tests-gt64.false
