use native.Mathlib.Omega.{arith}
use mathlib.Core.Path.{refl, ◌∙◌}
use native.Mathlib.Nat.{zero-add}
use Rattle.basics.proofs.Stores.{writing_first}
use Rattle.basics.proofs.Listed.{ruling_next, ruling_end}
use Rattle.steady_pins.proofs.settling.put_row.Goals as goal

pub loop-n-init : goal.loop-n-init
loop-n-init c = (omega arith, writing_first)

pub bounds-before-n : goal.bounds-before-n
bounds-before-n c = c.loop-n-test.true

pub bounds-mine-n : goal.bounds-mine-n
bounds-mine-n c = c.loop-n-test.true

pub overflow_add-pins : goal.overflow_add-pins
overflow_add-pins c = omega (arith, c.requires, c.loop-n-test.true)

pub bounds-pins-base : goal.bounds-pins-base
bounds-pins-base c = omega (arith, c.requires, c.loop-n-test.true)

pub loop-n-preserved : goal.loop-n-preserved
loop-n-preserved c = (
  omega (arith, c.loop-n-test.true),
  ruling_next 0 _ c.loop-n.invariant.1 c.loop-n-test.true
      (c.pin_entry.ensures ∙ rw zero-add refl),
)

pub returns : goal.returns
returns c = ruling_end 0 _ c.loop-n.invariant.1 (omega (arith, c.loop-n-test.false))
