use native.Mathlib.Omega.{arith}
use borrow.Author.Rules.{rules}
use mathlib.Core.Path.{◌≡◌, sym}
use Rattle.basics.proofs.PartByPart.{put_none, put_length, put_front}
use Rattle.record_copies.specs.HeldLists.{names_of}
use Rattle.record_checks.proofs.NameWalk.{end_zero, next_name}
use Rattle.record_copies.proofs.Copying.{name_there, name_fits, names_put, names_length}
use Rattle.record_copies.proofs.copies.copy_names.Goals as goal

pub loop-i-init : goal.loop-i-init
unfolding names_of
loop-i-init c = (search rules, sym (end_zero _), put_none)

pub overflow_add-from : goal.overflow_add-from
overflow_add-from c =
    omega (arith, name_there _ c.requires.names _ c.loop-i-test.true c.loop-i.invariant.1)

pub overflow_add-q : goal.overflow_add-q
overflow_add-q c =
    omega (arith, name_there _ c.requires.names _ c.loop-i-test.true c.loop-i.invariant.1)

pub byte_at-requires : goal.byte_at-requires
byte_at-requires c =
    omega (arith, name_there _ c.requires.names _ c.loop-i-test.true c.loop-i.invariant.1)

pub overflow_add-to : goal.overflow_add-to
overflow_add-to c =
    omega (
      arith,
      name_there _ c.requires.names _ c.loop-i-test.true c.loop-i.invariant.1,
      c.byte_at.ensures.is,
    )

pub slice_bounds-put_slot-end : goal.slice_bounds-put_slot-end
slice_bounds-put_slot-end c =
    omega (
      arith,
      name_there _ c.requires.names _ c.loop-i-test.true c.loop-i.invariant.1,
      c.byte_at.ensures.is,
    )

pub put_slot-at-requires : goal.put_slot-at-requires
put_slot-at-requires c =
    name_fits _ c.requires.names _ c.loop-i-test.true c.loop-i.invariant.1
    c.byte_at.ensures c.loop-i.invariant.2 c.requires.room

pub loop-i-preserved : goal.loop-i-preserved
loop-i-preserved c = (
  search rules,
  next_name _ _ c.loop-i.invariant.1 c.byte_at.ensures,
  names_put _ c.requires.names _ c.loop-i-test.true c.loop-i.invariant.1
      c.byte_at.ensures c.loop-i.invariant.2 c.put_slot-at.ensures,
)

pub shape_of-out : goal.shape_of-out
shape_of-out c = put_length c.loop-i.invariant.2

pub returns : goal.returns
returns c =
    let all : c.loop-i.i ≡ c.args.k = omega arith in
    record {
      names =
          put_front (rw all at c.loop-i.invariant.2)
          (omega (arith, names_length c.args.file.now c.args.k, c.requires.room));
      there = rw all at c.loop-i.invariant.1;
    }
