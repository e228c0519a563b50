-- `put_pair` meets its contract: an edge is two halves, and a letter in one of them has both based.
use Rattle.spelling.proofs.Tables.{pairing_as, pair_start, pair_first, pair_second}
use Rattle.basics.proofs.PartByPart.{put_as}
use Rattle.basics.proofs.PartByPart.{going_room, going_on, going_end}
use mathlib.Core.Path.{sym}
use Rattle.spelling.proofs.halves.put_pair.Goals as goal

pub put_wide-requires : goal.put_wide-requires
put_wide-requires c = pairing_as c.requires (pair_first _ _ c.if-f-ge3.true)

pub returns-then-f-ge3 : goal.returns-then-f-ge3
returns-then-f-ge3 c = put_as (sym (pair_first _ _ c.if-f-ge3.true)) c.put_wide.ensures

pub put_wide-requires-then-t-ge3 : goal.put_wide-requires-then-t-ge3
put_wide-requires-then-t-ge3 c =
    pairing_as c.requires (pair_second _ _ c.if-f-ge3.false c.if-t-ge3.true)

pub returns-then-t-ge3 : goal.returns-then-t-ge3
returns-then-t-ge3 c =
    put_as (sym (pair_second _ _ c.if-f-ge3.false c.if-t-ge3.true)) c.put_wide-then-t-ge3.ensures

pub put_half-p-requires : goal.put_half-p-requires
put_half-p-requires c =
    let none = pair_start c.requires c.if-f-ge3.false c.if-t-ge3.false in
    record { known = c.requires.first; room = going_room none }

pub put_half-requires : goal.put_half-requires
put_half-requires c =
    let none = pair_start c.requires c.if-f-ge3.false c.if-t-ge3.false in
    record { known = c.requires.second; room = going_room (going_on none c.put_half-p.ensures) }

pub returns : goal.returns
returns c =
    let none = pair_start c.requires c.if-f-ge3.false c.if-t-ge3.false in
    going_end (going_on (going_on none c.put_half-p.ensures) c.put_half.ensures)
