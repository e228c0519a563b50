-- `states::at_most` meets its contract: it is the definition, call by call.
use mathlib.Core.Path.{refl, ◌∙◌}
use Rattle.alf.specs.States.{at_most}
use Rattle.states.proofs.states.at_most.Goals as goal

pub returns : goal.returns
unfolding at_most
returns c =
    let first = c.below.ensures.0 in
    let second = c.equals.ensures.0 in
    (c.or_of.ensures.0 ∙ rw (first, second) refl, c.or_of.ensures.1)
