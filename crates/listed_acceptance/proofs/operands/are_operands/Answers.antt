use mathlib.Core.Path.{ap}
use mathlib.Core.Bool.{not}
use native.Mathlib.Omega.{arith}
use Rattle.basics.specs.Deciding.{Decides}
use Rattle.listed_acceptance.specs.Lists.{Operand}
use Rattle.listed_acceptance.proofs.Each.{upto_more, upto_all}
use Rattle.basics.proofs.Deciding.{said, decided_no, told}
use Rattle.listed_acceptance.proofs.operands.are_operands.Goals as goal

pub loop-i-init : goal.loop-i-init
loop-i-init c = (omega arith, λ j h. absurd (omega arith))

pub overflow_cast-operands : goal.overflow_cast-operands
overflow_cast-operands c = omega (arith, c.type_inv.operands c.loop-i.i)

pub returns-then-not-is_operand : goal.returns-then-not-is_operand
unfolding Decides
returns-then-not-is_operand c =
    λ h.
    decided_no c.is_operand.result c.is_operand.ensures (ap not c.if-not-is_operand.true)
    (h c.loop-i.i (omega arith))

pub loop-i-preserved : goal.loop-i-preserved
loop-i-preserved c =
    let a = c.args in
    let o = told _ c.is_operand.ensures (said _ (ap not c.if-not-is_operand.false)) in
    (omega arith, upto_more (Operand a.tree.now a.names) a.operands.now c.loop-i.i c.loop-i.invariant.1 o)

pub returns : goal.returns
unfolding Decides
returns c =
    let a = c.args in
    upto_all (Operand a.tree.now a.names) a.operands.now c.loop-i.i c.loop-i-test.false
    c.loop-i.invariant.1
