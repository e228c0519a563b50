use mathlib.Core.Path.{refl}
use Prim.Native.Nat.{◌+◌}
use native.Mathlib.Omega.{arith}
use Rattle.basics.specs.Deciding.{Decides}
use Rattle.alternatives.proofs.Cuts.{part_first, sum_part}
use Rattle.listed_acceptance.proofs.Sums.{few_end}
use Rattle.listed_acceptance.proofs.counting.few_tests.Goals as goal

pub loop-i-init : goal.loop-i-init
loop-i-init c = (omega arith, rw part_first refl)

pub overflow_cast-x : goal.overflow_cast-x
overflow_cast-x c = omega (arith, c.type_inv.tests (c.args.s + c.loop-i.i))

pub returns-then-left-x : goal.returns-then-left-x
unfolding Decides
returns-then-left-x c =
    λ w.
    let a = c.args in
    let e = sum_part a.tests.now a.s a.n c.loop-i.i (omega arith) (omega arith) in
    omega (arith, w)

pub loop-i-preserved : goal.loop-i-preserved
loop-i-preserved c =
    let a = c.args in
    let e = sum_part a.tests.now a.s a.n c.loop-i.i (omega arith) (omega arith) in
    omega arith

pub returns : goal.returns
unfolding Decides
returns c =
    let a = c.args in
    few_end a.tests.now a.s a.n _ _ c.loop-i-test.false c.loop-i.invariant.1
