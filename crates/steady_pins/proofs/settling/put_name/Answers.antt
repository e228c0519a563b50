use native.Mathlib.Omega.{arith}
use Rattle.steady_pins.proofs.SettledRows.{column_first, column_next, column_end}
use Rattle.steady_pins.proofs.settling.put_name.Goals as goal

pub loop-k-init : goal.loop-k-init
loop-k-init c = (omega arith, column_first)

pub bounds-rows-k : goal.bounds-rows-k
bounds-rows-k c = let f = c.requires.fit.few in omega (arith, c.loop-k-test.true)

pub overflow_cast-r : goal.overflow_cast-r
overflow_cast-r c = let l = c.requires.fit.low _ c.loop-k-test.true in omega arith

pub overflow_mul-pins : goal.overflow_mul-pins
overflow_mul-pins c = let l = c.requires.fit.low _ c.loop-k-test.true in omega arith

pub overflow_add-pins : goal.overflow_add-pins
overflow_add-pins c =
    let start = c.requires in
    let l = start.fit.low _ c.loop-k-test.true in omega (arith, start.name)

pub bounds-pins-r : goal.bounds-pins-r
bounds-pins-r c =
    let start = c.requires in
    let l = start.fit.low _ c.loop-k-test.true in omega (arith, start.name)

pub loop-k-preserved : goal.loop-k-preserved
loop-k-preserved c =
    let start = c.requires in (
      omega (arith, c.loop-k-test.true),
      column_next start.name (start.fit.low _ c.loop-k-test.true) start.fit.long
          c.loop-k.invariant.1,
    )

pub returns : goal.returns
returns c = column_end c.loop-k.invariant.1 c.loop-k.invariant.0 c.loop-k-test.false
