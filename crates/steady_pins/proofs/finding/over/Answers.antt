use native.Mathlib.Omega.{arith}
use lib.ListN.{replicate}
use mathlib.Core.Path.{refl, ◌∙◌}
use Rattle.basics.proofs.Stores.{writing_first}
use Rattle.basics.proofs.Listed.{ruling_next_front, ruling_front, listed_whole}
use Rattle.steady_pins.proofs.finding.over.Goals as goal

pub loop-n-init : goal.loop-n-init
loop-n-init c = (omega arith, writing_first)

pub bounds-places-n : goal.bounds-places-n
bounds-places-n c = c.loop-n-test.true

pub bounds-others-n : goal.bounds-others-n
bounds-others-n c = c.loop-n-test.true

pub bounds-r-n : goal.bounds-r-n
bounds-r-n c = c.loop-n-test.true

pub loop-n-preserved : goal.loop-n-preserved
loop-n-preserved c = (
  omega (arith, c.loop-n-test.true),
  ruling_next_front _ c.loop-n.invariant.1 c.loop-n-test.true c.over_entry.ensures,
)

pub returns : goal.returns
returns c =
    ruling_front _ c.loop-n.invariant.1 (omega (arith, c.loop-n-test.false)) (omega arith)
    ∙ listed_whole 32 _ (replicate 32 0) refl
