-- `matcher::answers::test_at_lem` meets its contract.
use mathlib.Core.Path.{refl}
use Rattle.alf.specs.Alternatives.{test_at}
use native.Mathlib.Omega.{arith}
use Rattle.evaluator.proofs.Traces.{earlier_row}
use Rattle.matcher.proofs.answers.test_at.Goals as goal

pub state-before-requires : goal.state-before-requires
state-before-requires c = record {
  ends_boolean = c.requires.ends;
  within = earlier_row _ (omega arith) c.requires.rows;
}

pub returns : goal.returns
unfolding test_at
returns c = rw (c.edge_on.ensures, c.state-before.ensures.is, c.state-after.ensures.is) refl
