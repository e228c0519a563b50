use mathlib.Core.Path.{ap}
use mathlib.Core.Bool.{not}
use native.Mathlib.Omega.{arith}
use Rattle.basics.specs.Deciding.{Decides}
use Rattle.basics.proofs.Deciding.{said, decided_no, told}
use Rattle.listed_acceptance.proofs.Sums.{lighting_first, lighting_room, lighting_over, lighting_next}
use Rattle.listed_acceptance.proofs.Sums.{lighting_end}
use Rattle.listed_acceptance.proofs.counting.are_light.Goals as goal

pub loop-i-init : goal.loop-i-init
loop-i-init c = lighting_first _ _

pub overflow_cast-n : goal.overflow_cast-n
overflow_cast-n c = omega (arith, c.type_inv.steps c.loop-i.i)

pub few_tests-requires : goal.few_tests-requires
few_tests-requires c = lighting_room c.loop-i.invariant (omega arith) c.requires

pub returns-then-not-few_tests : goal.returns-then-not-few_tests
unfolding Decides
returns-then-not-few_tests c =
    λ h.
    lighting_over c.loop-i.invariant (omega arith)
    (decided_no c.few_tests.result c.few_tests.ensures (ap not c.if-not-few_tests.true)) h

pub overflow_add-s : goal.overflow_add-s
overflow_add-s c = omega (arith, lighting_room c.loop-i.invariant (omega arith) c.requires)

pub loop-i-preserved : goal.loop-i-preserved
loop-i-preserved c =
    let few = told _ c.few_tests.ensures (said _ (ap not c.if-not-few_tests.false)) in
    lighting_next c.loop-i.invariant (omega arith) few

pub returns : goal.returns
unfolding Decides
returns c = lighting_end c.loop-i.invariant c.loop-i-test.false
