-- `states::at_least` meets its contract: it is the definition, call by call.
use mathlib.Core.Path.{refl, ◌∙◌}
use Rattle.alf.specs.States.{at_least}
use Rattle.states.proofs.states.at_least.Goals as goal

pub returns : goal.returns
unfolding at_least
returns c =
    let first = c.above.ensures.0 in
    let second = c.equals.ensures.0 in
    (c.or_of.ensures.0 ∙ rw (first, second) refl, c.or_of.ensures.1)
