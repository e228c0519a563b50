use mathlib.Core.Path.{◌∙◌}
use native.Mathlib.Omega.{arith}
use Rattle.columns.proofs.Tallies.{tallying_first, tallying_next, tally_small, tallying_end}
use Rattle.columns.proofs.passes.tally.Goals as goal

pub loop-part-init : goal.loop-part-init
loop-part-init c =
    rw c.into_iter-part-iterator.ensures.into_iter_gives (
      c.chunks-part-items.ensures.size,
      tallying_first c.chunks-part-items.ensures.rest (omega (arith, c.told-a, c.requires)),
    )

pub overflow_add-c : goal.overflow_add-c
overflow_add-c c =
    omega (arith, tally_small c.loop-part.invariant.1 _ _ c.in-Some.ensures.steps.1.0 c.tally_few.ensures, c.requires)

pub loop-part-preserved : goal.loop-part-preserved
loop-part-preserved c = (
  c.in-Some.ensures.steps.0 ∙ c.loop-part.invariant.0,
  tallying_next c.loop-part.invariant.1 _ _ c.in-Some.ensures.steps.1.0 c.tally_few.ensures,
)

pub returns : goal.returns
returns c = tallying_end c.loop-part.invariant.1 c.in-None.ensures.steps.1.0
