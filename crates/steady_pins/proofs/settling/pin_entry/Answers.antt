-- `settling::pin_entry` meets its contract.
use mathlib.Core.Path.{refl}
use borrow.Author.Tests.{ne_eqb}
use Rattle.steady_pins.specs.Finding.{pin_entry}
use Rattle.steady_pins.proofs.StepEntries.{pin_before}
use Rattle.steady_pins.proofs.settling.pin_entry.Goals as goal

pub returns-then-mine-eq0 : goal.returns-then-mine-eq0
unfolding pin_entry
returns-then-mine-eq0 c = pin_before _ _ c.if-mine-eq0.true

pub returns-else-mine-eq0 : goal.returns-else-mine-eq0
unfolding pin_entry
returns-else-mine-eq0 c = rw (ne_eqb _ 0 c.if-mine-eq0.false) refl
