-- `sums::add_total` meets its contract.
use mathlib.Core.Path.{ap}
use mathlib.Core.Bool.{not}
use native.Mathlib.Omega.{arith}
use Rattle.jobs.specs.Sums.{grown}
use Rattle.jobs.proofs.Additions.{full_told, fits_told, added_told}
use Rattle.jobs.proofs.sums.add_total.Goals as goal

pub returns-then-not-have_room : goal.returns-then-not-have_room
returns-then-not-have_room c = full_told _ _ c.have_room.ensures (ap not c.if-not-have_room.true)

pub overflow_add-result : goal.overflow_add-result
overflow_add-result c =
    let h = fits_told _ _ c.have_room.ensures (ap not c.if-not-have_room.false) in
    omega arith

pub overflow_add-result-2 : goal.overflow_add-result-2
overflow_add-result-2 c =
    let h = fits_told _ _ c.have_room.ensures (ap not c.if-not-have_room.false) in
    omega arith

pub overflow_add-result-3 : goal.overflow_add-result-3
overflow_add-result-3 c =
    let h = fits_told _ _ c.have_room.ensures (ap not c.if-not-have_room.false) in
    omega arith

pub overflow_add-result-4 : goal.overflow_add-result-4
overflow_add-result-4 c =
    let h = fits_told _ _ c.have_room.ensures (ap not c.if-not-have_room.false) in
    omega arith

pub returns : goal.returns
unfolding grown
returns c =
    let args = c.args in
    added_told args.s args.t c.have_room.ensures (ap not c.if-not-have_room.false)
