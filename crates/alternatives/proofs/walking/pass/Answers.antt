use Prim.Native.Nat.{◌+◌, ◌-◌}
use mathlib.Core.Path.{ap, ◌∙◌}
use native.Mathlib.Omega.{arith}
use lib.ListN.{take, drop, drop_of_length-le}
use Rattle.alternatives.specs.InMemory.{sum}
use Rattle.alternatives.proofs.Cuts.{sum_next, sum_take, sum_nil}
use Rattle.alternatives.proofs.walking.pass.Goals as goal

pub overflow_add-at : goal.overflow_add-at
overflow_add-at c =
    let a = c.args in
    let e = sum_next (take (a.s + a.n - a.s) (drop a.s a.tests.now)) c.loop-many.many-index c.loop-many-test.true in
    let f = sum_take (drop a.s a.tests.now) a.n in
    omega arith

pub loop-many-preserved : goal.loop-many-preserved
loop-many-preserved c =
    let a = c.args in
    let e = sum_next (take (a.s + a.n - a.s) (drop a.s a.tests.now)) c.loop-many.many-index c.loop-many-test.true in
    omega arith

pub returns : goal.returns
returns c =
    let a = c.args in
    let e =
    ap sum (drop_of_length-le (take (a.s + a.n - a.s) (drop a.s a.tests.now)) c.loop-many-test.false)
    ∙ sum_nil in
    omega arith
