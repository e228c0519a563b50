use native.Mathlib.Omega.{arith}
use Rattle.blank_calls.proofs.Rows.{going_first, going_length, going_room, going_next, going_end}
use Rattle.blank_calls.proofs.blanking.blank_rows.Goals as goal

pub loop-r-init : goal.loop-r-init
loop-r-init c = going_first

pub blank_row-requires : goal.blank_row-requires
blank_row-requires c =
    let asked = c.requires in
    omega
    (arith, going_length c.loop-r.invariant asked, going_room c.loop-r.invariant asked c.loop-r-test.true)

pub overflow_add-at : goal.overflow_add-at
overflow_add-at c = omega (arith, going_room c.loop-r.invariant c.requires c.loop-r-test.true)

pub loop-r-preserved : goal.loop-r-preserved
loop-r-preserved c =
    going_next c.loop-r.invariant c.requires c.loop-r-test.true
    c.blank_row.ensures

pub shape_of-states : goal.shape_of-states
shape_of-states c = going_length c.loop-r.invariant c.requires

pub returns : goal.returns
returns c = going_end c.loop-r.invariant c.requires c.loop-r-test.false
