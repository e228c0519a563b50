-- `pushing::queue_good` meets its contract.
use mathlib.Core.Path.{ap}
use mathlib.Core.Bool.{not}
use native.Mathlib.Omega.{arith}
use Rattle.rewriting.proofs.Bounds.{accepted_limited}
use Rattle.basics.proofs.Deciding.{said, told, decided_no}
use Rattle.queue_calls.proofs.Pushes.{few_steps, queue_many, queue_tree, queue_kept}
use Rattle.queue_calls.proofs.pushing.queue_good.Goals as goal

pub returns-then-names-gt32 : goal.returns-then-names-gt32
returns-then-names-gt32 c = queue_many _ _ _ _ c.if-names-gt32.true

pub returns-then-not-accepts : goal.returns-then-not-accepts
returns-then-not-accepts c = queue_tree _ _ _ _ (decided_no _ c.accepts.ensures (ap not c.if-not-accepts.true))

pub steps_of-requires : goal.steps_of-requires
steps_of-requires c = told _ c.accepts.ensures (said _ (ap not c.if-not-accepts.false))

pub keeps-requires : goal.keeps-requires
keeps-requires c =
    let a = told _ c.accepts.ensures (said _ (ap not c.if-not-accepts.false)) in
    record {
      most = c.if-names-gt32.false;
      few = omega (arith, c.steps_of.ensures, few_steps _ (accepted_limited _ _ a));
    }

pub returns : goal.returns
returns c =
    let a = told _ c.accepts.ensures (said _ (ap not c.if-not-accepts.false)) in
    queue_kept _ _ _ _ _ a c.steps_of.ensures c.keeps.ensures
