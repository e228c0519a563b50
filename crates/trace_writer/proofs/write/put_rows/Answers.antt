use native.Mathlib.Omega.{arith}
use borrow.Author.Rules.{rules}
use mathlib.Core.Path.{◌≡◌, sym}
use native.Mathlib.Nat.{zero-mul}
use Rattle.basics.proofs.PartByPart.{put_length}
use Rattle.trace_format.proofs.RowByRow.{next_to, room_for}
use Rattle.trace_writer.proofs.Putting.{rows_none, row_fits, rows_put}
use Rattle.trace_writer.proofs.write.put_rows.Goals as goal

pub loop-r-init : goal.loop-r-init
loop-r-init c = (search rules, sym (zero-mul _), rows_none _ _ _ _ _ _)

pub overflow_add-to : goal.overflow_add-to
overflow_add-to c =
    omega (
      arith,
      room_for _ _ c.args.lists.now.k c.loop-r-test.true,
      c.loop-r.invariant.1,
      c.requires.lent.states_all,
    )

pub slice_bounds-put_row-end : goal.slice_bounds-put_row-end
slice_bounds-put_row-end c =
    omega (
      arith,
      room_for _ _ c.args.lists.now.k c.loop-r-test.true,
      c.loop-r.invariant.1,
      c.requires.lent.states_all,
    )

pub put_row-q-requires : goal.put_row-q-requires
put_row-q-requires c =
    row_fits _ c.args.lists.now.times.now c.args.lists.now.states.now _ c.requires.lent.states_all _
    c.loop-r.invariant.1 c.loop-r.invariant.2
    c.loop-r-test.true c.requires.room

pub loop-r-preserved : goal.loop-r-preserved
loop-r-preserved c = (
  search rules,
  rw c.loop-r.invariant.1 (next_to _ _),
  rows_put _ c.args.lists.now.times.now c.args.lists.now.states.now _ c.requires.lent.states_all _
      c.loop-r.invariant.1 c.loop-r.invariant.2
      c.put_row-q.ensures,
)

pub shape_of-out : goal.shape_of-out
shape_of-out c = put_length c.loop-r.invariant.2

pub returns : goal.returns
returns c =
    let e : c.loop-r.r ≡ c.args.n = omega arith in
    rw e at c.loop-r.invariant.2
