use Prim.Native.Nat.{◌*◌}
use mir.Val.{Fits}
use mir.Syntax.{w64}
use native.Mathlib.Omega.{arith}
use borrow.Author.Rules.{rules}
use Rattle.judging.proofs.TimedChecks.{looking_first, looking_next, looking_end, early_found}
use Rattle.judging.proofs.timed.first_early.Goals as goal

pub loop-i-init : goal.loop-i-init
loop-i-init c = looking_first

pub overflow_sub-i : goal.overflow_sub-i
overflow_sub-i c = omega (arith, c.loop-i.invariant.some)

pub offset_bounds-times-i-in-loop-i : goal.offset_bounds-times-i-in-loop-i
offset_bounds-times-i-in-loop-i c =
    let m : Fits w64 (c.loop-i.i * 8) = search rules in
    omega (arith, m)

pub bounds-times-i-in-loop-i : goal.bounds-times-i-in-loop-i
bounds-times-i-in-loop-i c = omega (arith, c.loop-i-test.true)

pub returns-then-times-i : goal.returns-then-times-i
returns-then-times-i c = early_found c.loop-i.invariant c.loop-i-test.true c.if-times-i.true

pub loop-i-preserved : goal.loop-i-preserved
loop-i-preserved c = looking_next c.loop-i.invariant (omega (arith, c.if-times-i.false))

pub returns : goal.returns
returns c = looking_end c.loop-i.invariant c.loop-i-test.false
