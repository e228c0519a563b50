-- `sums::have_room` meets its contract.
use mathlib.Core.Path.{ap}
use mathlib.Core.Bool.{not}
use Rattle.jobs.proofs.Additions.{first_full, second_full, third_full, last_fits}
use Rattle.jobs.proofs.sums.have_room.Goals as goal

pub returns-then-not-has_room : goal.returns-then-not-has_room
returns-then-not-has_room c =
    let args = c.args in
    first_full args.s args.t c.has_room.ensures (ap not c.if-not-has_room.true)

pub returns-then-not-has_room-2 : goal.returns-then-not-has_room-2
returns-then-not-has_room-2 c =
    let args = c.args in
    second_full args.s args.t c.has_room.ensures (ap not c.if-not-has_room.false)
    c.has_room-2.ensures (ap not c.if-not-has_room-2.true)

pub returns-then-not-has_room-3 : goal.returns-then-not-has_room-3
returns-then-not-has_room-3 c =
    let args = c.args in
    third_full args.s args.t c.has_room.ensures (ap not c.if-not-has_room.false)
    c.has_room-2.ensures (ap not c.if-not-has_room-2.false)
    c.has_room-3.ensures (ap not c.if-not-has_room-3.true)

pub returns : goal.returns
returns c =
    let args = c.args in
    last_fits args.s args.t c.has_room.ensures (ap not c.if-not-has_room.false)
    c.has_room-2.ensures (ap not c.if-not-has_room-2.false)
    c.has_room-3.ensures (ap not c.if-not-has_room-3.false) c.has_room-4.ensures
