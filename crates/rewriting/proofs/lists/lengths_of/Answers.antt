use native.Mathlib.Omega.{arith}
use Rattle.rewriting.proofs.Bounds.{ready_ends, count_exact, ready_shaping}
use Rattle.rewriting.proofs.Filling.{counting_first, counting_end}
use Rattle.rewriting.proofs.Turns.{counts_small, counts_next}
use Rattle.rewriting.proofs.lists.lengths_of.Goals as goal

pub count_at-n-requires : goal.count_at-n-requires
count_at-n-requires c = (c.requires.1.counts, ready_ends c.requires.0)

pub loop-t-init : goal.loop-t-init
loop-t-init c = counting_first

pub shape_of-x-requires-in-loop-t : goal.shape_of-x-requires-in-loop-t
shape_of-x-requires-in-loop-t c =
    let e = count_exact _ _ _ c.requires.0 c.count_at-n.ensures in
    record {
      shaping = ready_shaping _ _ _ c.requires.0 (omega (arith, e, c.loop-t-test.true));
      noted = c.requires.1;
    }

pub overflow_add-steps : goal.overflow_add-steps
overflow_add-steps c =
    let e = count_exact _ _ _ c.requires.0 c.count_at-n.ensures in
    let r = counts_small c.requires.0 c.loop-t.invariant c.shape_of-x.ensures
    (omega (arith, e, c.loop-t-test.true)) in
    omega (arith, r.0)

pub overflow_add-tests : goal.overflow_add-tests
overflow_add-tests c =
    let e = count_exact _ _ _ c.requires.0 c.count_at-n.ensures in
    let r = counts_small c.requires.0 c.loop-t.invariant c.shape_of-x.ensures
    (omega (arith, e, c.loop-t-test.true)) in
    omega (arith, r.1)

pub loop-t-preserved : goal.loop-t-preserved
loop-t-preserved c =
    let e = count_exact _ _ _ c.requires.0 c.count_at-n.ensures in
    counts_next c.requires.0 c.loop-t.invariant c.shape_of-x.ensures (omega (arith, e, c.loop-t-test.true))

pub returns : goal.returns
returns c =
    let e = count_exact _ _ _ c.requires.0 c.count_at-n.ensures in
    counting_end c.loop-t.invariant e c.loop-t-test.false
