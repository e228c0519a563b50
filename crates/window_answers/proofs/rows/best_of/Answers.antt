use native.Mathlib.Omega.{arith}
use mathlib.Core.Path.{refl}
use Rattle.basics.specs.Words.{greatest}
use Rattle.basics.proofs.Listed.{all_passed}
use Rattle.answer_table.proofs.Joining.{greatest_step}
use Rattle.window_answers.proofs.rows.best_of.Goals as goal

pub loop-a-init : goal.loop-a-init
unfolding greatest
loop-a-init c = (omega arith, refl)

pub loop-a-preserved : goal.loop-a-preserved
loop-a-preserved c = (
  omega arith,
  greatest_step _ c.loop-a.invariant.1 c.read.ensures
      c.max-best.ensures,
)

pub returns : goal.returns
returns c = all_passed greatest _ c.loop-a.invariant.0 c.loop-a-test.false c.loop-a.invariant.1
