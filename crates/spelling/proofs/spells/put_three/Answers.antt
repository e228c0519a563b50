-- `put_three` meets its contract: one byte, two or three, up to the first zero.
use Rattle.spelling.proofs.Tables.{some_byte, some_bytes, one_byte, two_start, three_start}
use Rattle.basics.proofs.PartByPart.{put_length, going_room, going_on, going_end}
use native.Mathlib.Omega.{arith}
use Rattle.spelling.proofs.spells.put_three.Goals as goal

pub push-p-requires : goal.push-p-requires
push-p-requires c =
    let a = c.args in
    omega (arith, some_byte a.x a.y a.z)

pub returns-then-y-eq0 : goal.returns-then-y-eq0
returns-then-y-eq0 c = rw (one_byte _ _ _ c.if-y-eq0.true) c.push-p.ensures

pub push-q-requires : goal.push-q-requires
push-q-requires c =
    let a = c.args in
    let e = c.push-p.ensures in
    omega (
      arith,
      some_bytes a.x a.y a.z c.if-y-eq0.false,
      put_length e,
      e.next,
      c.requires.room,
    )

pub returns-then-z-eq0 : goal.returns-then-z-eq0
returns-then-z-eq0 c =
    let g = two_start _ _ _ c.requires c.if-y-eq0.false c.if-z-eq0.true in
    going_end (going_on (going_on g c.push-p.ensures) c.push-q.ensures)

pub push-requires : goal.push-requires
push-requires c =
    let g = three_start _ _ _ c.requires c.if-y-eq0.false c.if-z-eq0.false in
    let r = going_room (going_on (going_on g c.push-p.ensures) c.push-q.ensures) in
    omega arith

pub returns : goal.returns
returns c =
    let g = three_start _ _ _ c.requires c.if-y-eq0.false c.if-z-eq0.false in
    going_end (going_on (going_on (going_on g c.push-p.ensures) c.push-q.ensures) c.push.ensures)
