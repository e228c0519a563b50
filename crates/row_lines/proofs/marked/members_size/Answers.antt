use native.Mathlib.Omega.{arith}
use Rattle.row_lines.specs.Lines.{members}
use Rattle.row_lines.proofs.InTurn.{measured_first, measured_next, measured_end}
use Rattle.row_lines.proofs.NameSets.{slot_in}
use Rattle.row_lines.proofs.marked.members_size.Goals as goal

pub loop-i-init : goal.loop-i-init
loop-i-init c = measured_first _ _ _

pub member_size-size-requires : goal.member_size-size-requires
member_size-size-requires c = slot_in c.requires c.loop-i-test.true

pub overflow_add-size : goal.overflow_add-size
overflow_add-size c =
    omega (arith, c.loop-i.invariant.few, c.loop-i.invariant.within, c.member_size-size.ensures.few, c.requires.few)

pub loop-i-preserved : goal.loop-i-preserved
loop-i-preserved c = measured_next c.loop-i.invariant c.loop-i-test.true c.member_size-size.ensures

pub returns : goal.returns
unfolding members
returns c = measured_end c.loop-i.invariant c.loop-i-test.false
