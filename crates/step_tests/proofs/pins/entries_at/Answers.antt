-- `pins::entries_at` meets its contract.
use mathlib.Core.Path.{refl}
use borrow.Author.Tests.{eq-eqb, ne_eqb}
use Rattle.step_tests.specs.Steps.{entries_at}
use Rattle.step_tests.proofs.pins.entries_at.Goals as goal

pub returns-then-j-steps : goal.returns-then-j-steps
unfolding entries_at
returns-then-j-steps c = rw (eq-eqb _ _ c.if-j-steps.true) refl

pub returns-else-j-steps : goal.returns-else-j-steps
unfolding entries_at
returns-else-j-steps c = rw (ne_eqb _ _ c.if-j-steps.false) refl
