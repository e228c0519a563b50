use mathlib.Core.Path.{◌≡◌, refl, sym}
use native.Mathlib.Omega.{arith}
use lib.Dec.{eqb}
use lib.ListN.{length, get_or}
use Rattle.basics.specs.Words.{count}
use Rattle.basics.proofs.Counts.{count_next, count_small, one_small}
use Rattle.columns.proofs.passes.tally_few.Goals as goal

pub loop-x-init : goal.loop-x-init
unfolding count
loop-x-init c = refl

pub overflow_add-c : goal.overflow_add-c
overflow_add-c c =
    let s = count_small c.loop-x.x-index (λ j. eqb (get_or c.args.a.now j 0) c.args.v) in
    let z = one_small (eqb (get_or c.args.a.now c.loop-x.x-index 0) c.args.v) in
    omega (arith, c.loop-x.invariant, c.same-c.ensures, c.requires)

pub loop-x-preserved : goal.loop-x-preserved
loop-x-preserved c =
    rw (c.loop-x.invariant, c.same-c.ensures)
    (sym (count_next c.loop-x.x-index (λ j. eqb (get_or c.args.a.now j 0) c.args.v)))

pub returns : goal.returns
returns c =
    let e : c.loop-x.x-index ≡ length c.args.a.now = omega (arith, c.loop-x-test.false) in
    rw e at c.loop-x.invariant
