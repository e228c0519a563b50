-- `put_name` meets its contract: the slot's bytes up to the first zero are the name.
use Rattle.spelling.proofs.Tables.{slot_name, name_room}
use Rattle.basics.proofs.PartByPart.{put_as}
use Rattle.spelling.proofs.spells.put_name.Goals as goal

pub put-requires : goal.put-requires
put-requires c = name_room _ _ c.requires c.name_len.ensures

pub returns : goal.returns
returns c = put_as (slot_name _ _ c.name_len.ensures) c.put.ensures
