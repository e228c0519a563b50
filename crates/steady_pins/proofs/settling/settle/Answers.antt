use native.Mathlib.Omega.{arith}
use Rattle.steady_pins.proofs.SettledRows.{settling_first, settling_rows, settling_next}
use Rattle.steady_pins.proofs.SettledRows.{settling_end, settled_off}
use Rattle.steady_pins.proofs.settling.settle.Goals as goal

pub returns-then-not-on : goal.returns-then-not-on
returns-then-not-on c = settled_off c.if-not-on.true

pub loop-n-init : goal.loop-n-init
loop-n-init c = (omega arith, settling_first)

pub bounds-before-n : goal.bounds-before-n
bounds-before-n c = c.loop-n-test.true

pub bounds-after-n : goal.bounds-after-n
bounds-after-n c = c.loop-n-test.true

pub settle_name-requires : goal.settle_name-requires
settle_name-requires c =
    settling_rows c.loop-n.invariant.1 c.requires
    c.loop-n-test.true

pub loop-n-preserved : goal.loop-n-preserved
loop-n-preserved c = (
  omega (arith, c.loop-n-test.true),
  settling_next c.loop-n.invariant.1 c.settle_name.ensures,
)

pub returns : goal.returns
returns c =
    let g = c.loop-n.invariant.1 in
    settling_end g c.if-not-on.false (omega (arith, c.loop-n-test.false))
