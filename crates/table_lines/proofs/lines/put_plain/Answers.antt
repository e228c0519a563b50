use native.Mathlib.Omega.{arith}
use mathlib.Core.Path.{sym, ◌∙◌}
use lib.ListN.{length-map}
use Rattle.basics.proofs.Stores.{writing_first, writing_length, writing_next, writing_end}
use Rattle.table_lines.specs.Table.{plain}
use Rattle.table_lines.proofs.LineEnds.{shown_at_lem}
use Rattle.table_lines.proofs.lines.put_plain.Goals as goal

pub loop-i-init : goal.loop-i-init
loop-i-init c = writing_first

pub overflow_add-out : goal.overflow_add-out
overflow_add-out c = omega (arith, length-map c.args.pattern.now plain, c.requires)

pub bounds-out-at : goal.bounds-out-at
bounds-out-at c =
    omega (arith, length-map c.args.pattern.now plain, c.requires, writing_length c.loop-i.invariant)

pub loop-i-preserved : goal.loop-i-preserved
loop-i-preserved c =
    let pattern = c.args.pattern.now in
    let more = c.loop-i-test.true in
    writing_next c.loop-i.invariant (omega (arith, length-map pattern plain, more))
    (c.plain_of.ensures ∙ sym (shown_at_lem pattern c.loop-i.i more))

pub shape_of-out : goal.shape_of-out
shape_of-out c = writing_length c.loop-i.invariant

pub returns : goal.returns
returns c =
    let pattern = c.args.pattern.now in
    let all = length-map pattern plain in
    record {
      bytes = writing_end c.loop-i.invariant (omega (arith, all, c.loop-i-test.false));
      next = omega (arith, all, c.loop-i.invariant.within, c.loop-i-test.false);
    }
