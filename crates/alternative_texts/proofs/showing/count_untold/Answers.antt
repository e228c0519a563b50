use native.Mathlib.Omega.{arith}
use Rattle.alternative_texts.proofs.Counting.{count_first, count_asked, count_next, count_last}
use Rattle.alternative_texts.proofs.showing.count_untold.Goals as goal

pub loop-k-init : goal.loop-k-init
loop-k-init c = count_first c.requires

pub bounds-operands-k : goal.bounds-operands-k
bounds-operands-k c = omega (arith, c.requires.known.enough)

pub overflow_cast-operands : goal.overflow_cast-operands
overflow_cast-operands c = omega (arith, c.type_inv.operands c.loop-k.k)

pub is_untold-n-requires : goal.is_untold-n-requires
is_untold-n-requires c = count_asked c.requires c.loop-k.invariant c.loop-k-test.true

pub overflow_add-n : goal.overflow_add-n
overflow_add-n c = omega (arith, c.loop-k.invariant.few, c.is_untold-n.ensures.few)

pub loop-k-preserved : goal.loop-k-preserved
loop-k-preserved c = count_next c.requires c.loop-k.invariant c.loop-k-test.true c.is_untold-n.ensures

pub returns : goal.returns
returns c = count_last c.requires c.loop-k.invariant c.loop-k-test.false
