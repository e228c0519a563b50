-- `accepting::fits` meets its contract.
use mathlib.Core.Path.{ap}
use mathlib.Core.Bool.{not}
use Rattle.basics.specs.Deciding.{Decides}
use Rattle.basics.proofs.Deciding.{said, decided_no, told, same_decided}
use Rattle.listed_acceptance.proofs.Acceptance.{accepted_shaped, shaped_accepted}
use Rattle.listed_acceptance.proofs.accepting.fits.Goals as goal

pub returns-then-not-are_shaped : goal.returns-then-not-are_shaped
unfolding Decides
returns-then-not-are_shaped c =
    λ a.
    decided_no c.are_shaped.result c.are_shaped.ensures (ap not c.if-not-are_shaped.true)
    (accepted_shaped _ _ _ _ _ _ a)

pub returns-then-not-are_known : goal.returns-then-not-are_known
unfolding Decides
returns-then-not-are_known c =
    λ a.
    decided_no c.are_known.result c.are_known.ensures (ap not c.if-not-are_known.true) a.known

pub returns : goal.returns
returns c =
    let shaped = told _ c.are_shaped.ensures (said _ (ap not c.if-not-are_shaped.false)) in
    let known = told _ c.are_known.ensures (said _ (ap not c.if-not-are_known.false)) in
    same_decided _ _ _ (shaped_accepted _ _ _ _ _ _ shaped known) (λ a. a.operand) c.are_operands.ensures
