-- `good_slot` meets its contract: its tests tell the three parts of a good slot.
use Rattle.basics.proofs.Deciding.{fails}
use Rattle.names.proofs.Slots.{slot_unnamed, slot_unfilled, slot_good}
use Rattle.names.proofs.good_slot.Goals as goal

pub returns-then-not-is_name : goal.returns-then-not-is_name
returns-then-not-is_name c =
    fails
    (slot_unnamed _ _ c.requires
    c.name_len-n.ensures c.is_name.ensures c.if-not-is_name.true)

pub returns-then-not-all_zero : goal.returns-then-not-all_zero
returns-then-not-all_zero c =
    fails
    (slot_unfilled _ _ c.requires
    c.name_len-n.ensures
    c.is_name.ensures _ c.all_zero.ensures c.if-not-all_zero.true)

pub returns : goal.returns
returns c =
    slot_good _ _ c.requires
    c.name_len-n.ensures
    c.is_name.ensures _ c.all_zero.ensures
    c.if-not-is_name.false c.if-not-all_zero.false _
    c.is_new.ensures
