use native.Mathlib.Omega.{arith}
use Prim.Native.Nat.{◌≤◌}
use lib.ListN.{get_or}
use Rattle.basics.proofs.PartByPart.{put_length}
use Rattle.alternative_lines.proofs.LineParts.{lines_first, lines_asked, lines_next, lines_last}
use Rattle.alternative_lines.proofs.numbered.put_lines.Goals as goal

pub loop-k-init : goal.loop-k-init
loop-k-init c = lines_first c.requires

pub overflow_cast-n : goal.overflow_cast-n
overflow_cast-n c = omega (arith, c.type_inv.steps c.loop-k.k)

pub bounds-flags-k : goal.bounds-flags-k
bounds-flags-k c = omega (arith, c.requires.flags_there)

pub put_line-p-requires : goal.put_line-p-requires
put_line-p-requires c =
    let few : get_or c.args.steps.now c.loop-k.k 0 ≤ 255 =
    omega (arith, c.type_inv.steps c.loop-k.k) in
    lines_asked c.requires c.loop-k.invariant c.loop-k-test.true few

pub pass-t-requires : goal.pass-t-requires
pass-t-requires c =
    let few : get_or c.args.steps.now c.loop-k.k 0 ≤ 255 =
    omega (arith, c.type_inv.steps c.loop-k.k) in
    let w = lines_asked c.requires c.loop-k.invariant c.loop-k-test.true few in
    record { there = w.there; room = omega (arith, w.room, c.well_formed) }

pub overflow_add-s : goal.overflow_add-s
overflow_add-s c =
    let few : get_or c.args.steps.now c.loop-k.k 0 ≤ 255 =
    omega (arith, c.type_inv.steps c.loop-k.k) in
    let w = lines_asked c.requires c.loop-k.invariant c.loop-k-test.true few in
    omega (arith, w.there, c.well_formed)

pub loop-k-preserved : goal.loop-k-preserved
loop-k-preserved c =
    let few : get_or c.args.steps.now c.loop-k.k 0 ≤ 255 =
    omega (arith, c.type_inv.steps c.loop-k.k) in
    rw c.pass-t.ensures
    (lines_next c.requires c.loop-k.invariant c.loop-k-test.true few c.put_line-p.ensures)

pub shape_of-out : goal.shape_of-out
shape_of-out c = put_length c.loop-k.invariant.laying.put

pub returns : goal.returns
returns c = lines_last c.requires c.loop-k.invariant c.loop-k-test.false
