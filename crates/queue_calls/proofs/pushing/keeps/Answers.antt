-- `pushing::keeps` meets its contract.
use mathlib.Core.Path.{ap}
use mathlib.Core.Bool.{not}
use native.Mathlib.Omega.{arith}
use Rattle.basics.proofs.Deciding.{decided_no, decided_yes}
use Rattle.queue_calls.proofs.QueuesKept.{kept_not, kept_decided}
use Rattle.queue_calls.proofs.pushing.keeps.Goals as goal

pub returns-then-not-rows_good : goal.returns-then-not-rows_good
returns-then-not-rows_good c =
    kept_not c.args.queue
    (decided_no _ c.rows_good.ensures (ap not c.if-not-rows_good.true))

pub times_good-requires : goal.times_good-requires
times_good-requires c =
    let kept = decided_yes _ c.rows_good.ensures (ap not c.if-not-rows_good.false) in
    omega (arith, kept.few, c.requires.few)

pub returns : goal.returns
returns c =
    kept_decided c.args.queue _
    (decided_yes _ c.rows_good.ensures (ap not c.if-not-rows_good.false)) c.times_good.ensures
