use mathlib.Core.Path.{◌∙◌}
use native.Mathlib.Omega.{arith}
use Rattle.contradictions.proofs.Flagging.{flagging_first, flag_room, flags_length, flagging_rows}
use Rattle.contradictions.proofs.Flagging.{flagging_next, flagging_end, flag_from}
use Rattle.contradictions.proofs.possible.flag_all.Goals as goal

pub loop-k-init : goal.loop-k-init
loop-k-init c = flagging_first c.requires

pub contradicts-requires : goal.contradicts-requires
contradicts-requires c =
    let h = c.requires in
    (flagging_rows h c.loop-k.invariant c.loop-k-test.true, h.few)

pub bounds-flags-k : goal.bounds-flags-k
bounds-flags-k c = flag_room c.requires c.loop-k.invariant c.loop-k-test.true

pub pass-t-requires : goal.pass-t-requires
pass-t-requires c =
    let w = flagging_rows c.requires c.loop-k.invariant c.loop-k-test.true in
    record { there = w.there; room = omega (arith, w.tested, c.well_formed) }

pub overflow_add-s : goal.overflow_add-s
overflow_add-s c =
    let w = flagging_rows c.requires c.loop-k.invariant c.loop-k-test.true in
    omega (arith, w.there, c.well_formed)

pub loop-k-preserved : goal.loop-k-preserved
loop-k-preserved c =
    rw c.pass-t.ensures
    (flagging_next c.requires c.loop-k.invariant c.loop-k-test.true c.contradicts.ensures
    (c.from.ensures ∙ flag_from _))

pub shape_of-flags : goal.shape_of-flags
shape_of-flags c = flags_length c.requires c.loop-k.invariant

pub returns : goal.returns
returns c = flagging_end c.requires c.loop-k.invariant c.loop-k-test.false
