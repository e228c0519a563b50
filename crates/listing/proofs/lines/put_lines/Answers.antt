use native.Mathlib.Omega.{arith}
use lib.ListN.{get_or}
use Rattle.basics.proofs.PartByPart.{going_on, going_length}
use Rattle.listing.proofs.RowByRow.{rows_start, rows_going, rows_done, row_asked, row_put}
use Rattle.listing.proofs.lines.put_lines.Goals as goal

pub loop-i-init : goal.loop-i-init
loop-i-init c = (omega arith, rows_start _ _ _ c.requires)

pub overflow_cast-i : goal.overflow_cast-i
overflow_cast-i c =
    omega (arith, c.loop-i-test.true, c.requires.listable.lists.same, c.requires.listable.lists.rows.1)

pub stamp_of-requires : goal.stamp_of-requires
stamp_of-requires c = omega (arith, c.loop-i-test.true, c.requires.listable.lists.same)

pub bounds-codes-i : goal.bounds-codes-i
bounds-codes-i c = c.loop-i-test.true

pub put_line-p-requires : goal.put_line-p-requires
put_line-p-requires c =
    let g = rows_going _ _ _ _ c.requires.listable.lists.same c.loop-i-test.true c.loop-i.invariant.1 in
    row_asked c.requires c.loop-i-test.true c.stamp_of.ensures g

pub loop-i-preserved : goal.loop-i-preserved
loop-i-preserved c =
    let g = rows_going _ _ _ _ c.requires.listable.lists.same c.loop-i-test.true c.loop-i.invariant.1 in (
      omega (arith, c.loop-i-test.true),
      going_on g (row_put c.args.column c.args.times.now c.loop-i.i
          (get_or c.args.codes.now c.loop-i.i 0) c.stamp_of.ensures c.put_line-p.ensures),
    )

pub shape_of-out : goal.shape_of-out
shape_of-out c = going_length c.loop-i.invariant.1

pub returns : goal.returns
returns c = rows_done _ _ _ _ c.requires.listable.lists.same c.loop-i-test.false c.loop-i.invariant.1
