use native.Mathlib.Omega.{arith}
use Rattle.basics.proofs.Deciding.{holds, fails}
use Rattle.record_checks.proofs.NameWalk.{walk_start, walk_more, same_names, other_names}
use Rattle.record_checks.proofs.checks.is_new.Goals as goal

pub loop-j-init : goal.loop-j-init
loop-j-init c = walk_start c.requires

pub overflow_add-a : goal.overflow_add-a
overflow_add-a c = omega (arith, c.loop-j.invariant.ahead c.loop-j-test.true)

pub overflow_add-q : goal.overflow_add-q
overflow_add-q c = omega (arith, c.loop-j.invariant.ahead c.loop-j-test.true)

pub byte_at-requires-in-loop-j : goal.byte_at-requires-in-loop-j
byte_at-requires-in-loop-j c = omega (arith, c.loop-j.invariant.ahead c.loop-j-test.true)

pub overflow_add-b : goal.overflow_add-b
overflow_add-b c =
    omega (arith, c.loop-j.invariant.ahead c.loop-j-test.true, c.byte_at-in-loop-j.ensures.is)

pub slice_bounds-same-end : goal.slice_bounds-same-end
slice_bounds-same-end c =
    omega (arith, c.loop-j.invariant.ahead c.loop-j-test.true, c.byte_at-in-loop-j.ensures.is)

pub returns-then-same : goal.returns-then-same
returns-then-same c =
    fails
    (λ new.
    new _ c.loop-j-test.true
    (same_names _ _ _ c.loop-j.invariant.there
    c.byte_at-in-loop-j.ensures
    c.requires.there
    c.byte_at.ensures
    c.same.ensures.0 c.same.ensures.1
    c.if-same.true))

pub loop-j-preserved : goal.loop-j-preserved
loop-j-preserved c =
    walk_more c.requires
    c.loop-j.invariant
    c.loop-j-test.true c.byte_at-in-loop-j.ensures
    (other_names _ _ _ c.loop-j.invariant.there
    c.byte_at-in-loop-j.ensures
    c.requires.there
    c.byte_at.ensures
    c.same.ensures.0 c.same.ensures.1
    c.if-same.false)

pub returns : goal.returns
returns c =
    holds (λ j l. c.loop-j.invariant.new j (omega (arith, c.loop-j-test.false, c.loop-j.invariant.low)))
