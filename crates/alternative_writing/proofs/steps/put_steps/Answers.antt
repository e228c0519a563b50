use native.Mathlib.Omega.{arith}
use Prim.Native.Nat.{◌+◌, ◌≤◌}
use lib.ListN.{get_or}
use Rattle.basics.proofs.PartByPart.{put_length}
use Rattle.alternative_writing.proofs.AlternativeWalks.{alternative_first, alternative_there}
use Rattle.alternative_writing.proofs.AlternativeWalks.{alternative_asked, alternative_next, alternative_last}
use Rattle.alternative_writing.proofs.steps.put_steps.Goals as goal

pub loop-j-init : goal.loop-j-init
loop-j-init c = alternative_first c.requires

pub overflow_add-many : goal.overflow_add-many
overflow_add-many c =
    omega (arith, alternative_there c.requires c.loop-j.invariant c.loop-j-test.true, c.well_formed)

pub bounds-tests-s : goal.bounds-tests-s
bounds-tests-s c = alternative_there c.requires c.loop-j.invariant c.loop-j-test.true

pub overflow_cast-many : goal.overflow_cast-many
overflow_cast-many c = omega (arith, c.type_inv.tests (c.args.s + c.loop-j.j))

pub put_step-p-requires : goal.put_step-p-requires
put_step-p-requires c =
    let few : get_or c.args.tests.now (c.args.s + c.loop-j.j) 0 ≤ 255 =
    omega (arith, c.type_inv.tests (c.args.s + c.loop-j.j)) in
    alternative_asked c.requires c.loop-j.invariant c.loop-j-test.true few

pub overflow_add-u : goal.overflow_add-u
overflow_add-u c =
    let few : get_or c.args.tests.now (c.args.s + c.loop-j.j) 0 ≤ 255 =
    omega (arith, c.type_inv.tests (c.args.s + c.loop-j.j)) in
    let w = alternative_asked c.requires c.loop-j.invariant c.loop-j-test.true few in
    omega (arith, w.there, c.well_formed)

pub loop-j-preserved : goal.loop-j-preserved
loop-j-preserved c =
    let few : get_or c.args.tests.now (c.args.s + c.loop-j.j) 0 ≤ 255 =
    omega (arith, c.type_inv.tests (c.args.s + c.loop-j.j)) in
    alternative_next c.requires c.loop-j.invariant c.loop-j-test.true few c.put_step-p.ensures

pub shape_of-out : goal.shape_of-out
shape_of-out c = put_length c.loop-j.invariant.laying.put

pub returns : goal.returns
returns c = alternative_last c.requires c.loop-j.invariant c.loop-j-test.false
