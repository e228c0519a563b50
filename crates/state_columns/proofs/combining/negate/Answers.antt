use native.Mathlib.Omega.{arith}
use Rattle.state_columns.proofs.Stating.{stating_first, stating_length, stating_next, stating_end}
use Rattle.state_columns.proofs.Stating.{read_code, negated_is}
use Rattle.state_columns.proofs.combining.negate.Goals as goal

pub loop-i-init : goal.loop-i-init
loop-i-init c = stating_first

pub overflow_add-o : goal.overflow_add-o
overflow_add-o c = omega (arith, c.requires.room, c.well_formed)

pub bounds-parts-o : goal.bounds-parts-o
bounds-parts-o c = omega (arith, c.requires.room, stating_length c.loop-i.invariant)

pub not_of-requires : goal.not_of-requires
not_of-requires c = read_code c.loop-i.invariant c.requires c.loop-i-test.true (omega arith)

pub overflow_add-parts : goal.overflow_add-parts
overflow_add-parts c = omega (arith, c.requires.room, c.well_formed)

pub bounds-parts-o-in-loop-i : goal.bounds-parts-o-in-loop-i
bounds-parts-o-in-loop-i c = omega (arith, c.requires.room, stating_length c.loop-i.invariant)

pub loop-i-preserved : goal.loop-i-preserved
loop-i-preserved c =
    stating_next c.loop-i.invariant c.loop-i-test.true (negated_is c.loop-i.invariant c.requires
    c.loop-i-test.true c.not_of.ensures)

pub shape_of-parts : goal.shape_of-parts
shape_of-parts c = stating_length c.loop-i.invariant

pub returns : goal.returns
returns c = stating_end c.loop-i.invariant c.loop-i-test.false
