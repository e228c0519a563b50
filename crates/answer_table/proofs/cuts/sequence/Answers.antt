use native.Mathlib.Omega.{arith}
use mathlib.Core.Path.{refl}
use Rattle.basics.specs.Words.{greatest}
use Rattle.alf.specs.Windows.{followed_by}
use Rattle.basics.proofs.Listed.{all_passed}
use Rattle.answer_table.proofs.Joining.{greatest_step, min_of}
use Rattle.answer_table.proofs.cuts.sequence.Goals as goal

pub loop-i-init : goal.loop-i-init
unfolding greatest
loop-i-init c = (omega arith, refl)

pub loop-i-preserved : goal.loop-i-preserved
loop-i-preserved c =
    let one = min_of c.min.ensures c.read-x.ensures c.read-y.ensures in
    (omega arith, greatest_step _ c.loop-i.invariant.1 one c.max-best.ensures)

pub returns : goal.returns
unfolding followed_by
returns c = all_passed greatest _ c.loop-i.invariant.0 c.loop-i-test.false c.loop-i.invariant.1
