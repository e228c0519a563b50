-- `pushing::steps_of` meets its contract.
use Rattle.acceptance.proofs.Acceptance.{accepted_tree}
use Rattle.rewriting.proofs.Bounds.{accepted_limited}
use Rattle.queue_calls.proofs.Pushes.{steps_over, steps_within}
use Rattle.queue_calls.proofs.pushing.steps_of.Goals as goal

pub measure-size-requires : goal.measure-size-requires
measure-size-requires c = accepted_tree _ _ c.requires

pub returns-in-None : goal.returns-in-None
returns-in-None c = steps_over _ (accepted_limited _ _ c.requires) c.measure-size.ensures c.in-None.is

pub returns-in-Some : goal.returns-in-Some
returns-in-Some c =
    steps_within _ (accepted_limited _ _ c.requires) c.measure-size.ensures c.in-Some.is
