-- `passes::open` meets its contract.
use mathlib.Core.Path.{refl}
use borrow.Author.Tests.{eq-eqb, ne_eqb}
use Rattle.columns.proofs.passes.open.Goals as goal

pub returns-then-x-eq2 : goal.returns-then-x-eq2
returns-then-x-eq2 c = rw (eq-eqb _ _ c.if-x-eq2.true) refl

pub returns-else-x-eq2 : goal.returns-else-x-eq2
returns-else-x-eq2 c = rw (ne_eqb _ _ c.if-x-eq2.false) refl
