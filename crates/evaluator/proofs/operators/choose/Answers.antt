-- `operators::choose` meets its contract.
use Rattle.evaluator.proofs.Operating.{chosen_unknown, chosen_first, chosen_second}
use Rattle.evaluator.proofs.operators.choose.Goals as goal

pub returns-then-k-eq2 : goal.returns-then-k-eq2
returns-then-k-eq2 c = chosen_unknown _ _ _ _ c.reduced-k.ensures.0 c.if-k-eq2.true c.resolve.ensures

pub returns-then-k-eq1 : goal.returns-then-k-eq1
returns-then-k-eq1 c =
    let reduced = c.reduced-k.ensures.0 in
    chosen_first _ _ _ _ reduced c.if-k-eq2.false c.if-k-eq1.true c.requires.1

pub returns-else-k-eq1 : goal.returns-else-k-eq1
returns-else-k-eq1 c =
    let reduced = c.reduced-k.ensures.0 in
    chosen_second _ _ _ _ reduced c.if-k-eq2.false c.if-k-eq1.false c.requires.2
