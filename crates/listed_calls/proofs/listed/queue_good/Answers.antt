-- `listed::queue_good` meets its contract.
use mathlib.Core.Path.{ap}
use mathlib.Core.Bool.{not}
use native.Mathlib.Omega.{arith}
use Rattle.basics.proofs.Deciding.{said, decided_no, told}
use Rattle.listed_acceptance.proofs.Acceptance.{accepted_short}
use Rattle.listed_calls.proofs.QueueCalls.{queue_many, queue_lists, longest_here, queue_kept}
use Rattle.listed_calls.proofs.listed.queue_good.Goals as goal

pub returns-then-names-gt32 : goal.returns-then-names-gt32
returns-then-names-gt32 c = queue_many _ _ _ _ _ _ _ c.if-names-gt32.true

pub returns-then-not-fits : goal.returns-then-not-fits
returns-then-not-fits c = queue_lists _ _ _ _ _ _ _ (decided_no _ c.fits.ensures (ap not c.if-not-fits.true))

pub keeps-requires : goal.keeps-requires
keeps-requires c =
    let a = told _ c.fits.ensures (said _ (ap not c.if-not-fits.false)) in
    let q = c.args.queue in
    let k = longest_here _ _ _ _ _ _ q a c.longest.ensures in
    record { most = c.if-names-gt32.false; few = omega (arith, k, accepted_short _ _ _ _ _ _ a) }

pub returns : goal.returns
returns c =
    let a = told _ c.fits.ensures (said _ (ap not c.if-not-fits.false)) in
    queue_kept _ _ _ _ _ _ _ a _ c.longest.ensures c.keeps.ensures
