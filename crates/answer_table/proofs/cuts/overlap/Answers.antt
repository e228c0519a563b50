use native.Mathlib.Omega.{arith}
use mathlib.Core.Path.{refl}
use Rattle.basics.specs.Words.{greatest}
use Rattle.answer_table.specs.Tables.{stored}
use Rattle.answer_table.proofs.Stored.{stored_none}
use Rattle.answer_table.proofs.Joining.{greatest_step, shared_entry, shared_all}
use Rattle.answer_table.proofs.cuts.overlap.Goals as goal

pub loop-i-init : goal.loop-i-init
unfolding greatest
loop-i-init c = (omega arith, refl)

pub loop-i-preserved : goal.loop-i-preserved
loop-i-preserved c =
    let one = shared_entry (stored c.args.table.now c.args.p) (stored c.args.table.now c.args.q)
    c.args.a c.args.b c.loop-i.i c.read-x.ensures c.read-y.ensures
    c.read.ensures c.read-in-loop-i.ensures c.min-u.ensures
    c.min-v.ensures c.max.ensures in
    (omega arith, greatest_step _ c.loop-i.invariant.1 one c.max-best.ensures)

pub returns : goal.returns
returns c =
    shared_all (stored c.args.table.now c.args.p) (stored c.args.table.now c.args.q) c.args.a
    c.args.b c.requires.some (stored_none _ _ _ _ (omega arith)) (stored_none _ _ _ _ (omega arith))
    c.loop-i.invariant.0 c.loop-i-test.false c.loop-i.invariant.1
