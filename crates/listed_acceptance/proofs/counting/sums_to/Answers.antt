use mathlib.Core.Path.{refl}
use native.Mathlib.Omega.{arith}
use Rattle.basics.specs.Deciding.{Decides}
use Rattle.alternatives.proofs.Cuts.{sum_next}
use Rattle.listed_acceptance.proofs.Sums.{sum_end}
use Rattle.listed_acceptance.proofs.counting.sums_to.Goals as goal

pub loop-i-init : goal.loop-i-init
loop-i-init c = (omega arith, refl)

pub overflow_cast-x : goal.overflow_cast-x
overflow_cast-x c = omega (arith, c.type_inv.list c.loop-i.i)

pub returns-then-left-x : goal.returns-then-left-x
unfolding Decides
returns-then-left-x c =
    λ w.
    let e = sum_next c.args.list.now c.loop-i.i (omega arith) in
    omega (arith, w)

pub loop-i-preserved : goal.loop-i-preserved
loop-i-preserved c =
    let e = sum_next c.args.list.now c.loop-i.i (omega arith) in
    omega arith

pub returns : goal.returns
returns c = sum_end c.args.list.now _ _ _ c.loop-i-test.false c.loop-i.invariant.1
