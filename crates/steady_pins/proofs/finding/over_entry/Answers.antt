-- `finding::over_entry` meets its contract.
use mathlib.Core.Path.{refl}
use borrow.Author.Tests.{eq-eqb, ne_eqb}
use Rattle.steady_pins.specs.Walking.{over}
use Rattle.steady_pins.proofs.finding.over_entry.Goals as goal

pub returns-then-place-eq0 : goal.returns-then-place-eq0
unfolding over
returns-then-place-eq0 c = rw (eq-eqb _ 0 c.if-place-eq0.true) refl

pub returns-else-place-eq0 : goal.returns-else-place-eq0
unfolding over
returns-else-place-eq0 c = rw (ne_eqb _ 0 c.if-place-eq0.false) refl
