use native.Mathlib.Omega.{arith}
use Rattle.state_columns.proofs.Stating.{stating_first, stating_length, stating_next, stating_end}
use Rattle.state_columns.proofs.Stating.{read_there, both_codes, looked_is}
use Rattle.state_columns.proofs.combining.look.Goals as goal

pub loop-i-init : goal.loop-i-init
loop-i-init c = stating_first

pub overflow_add-x : goal.overflow_add-x
overflow_add-x c = omega (arith, c.requires.two.first.room, c.well_formed)

pub bounds-parts-o : goal.bounds-parts-o
bounds-parts-o c = read_there c.loop-i.invariant c.requires.two.first c.loop-i-test.true (omega arith)

pub overflow_cast-x : goal.overflow_cast-x
overflow_cast-x c = omega (arith, both_codes c.loop-i.invariant c.requires.two c.loop-i-test.true)

pub overflow_add-y : goal.overflow_add-y
overflow_add-y c = omega (arith, c.requires.two.second.room, c.well_formed)

pub bounds-parts-p : goal.bounds-parts-p
bounds-parts-p c =
    read_there c.loop-i.invariant c.requires.two.second c.loop-i-test.true
    (omega (arith, c.requires.two.apart))

pub overflow_cast-y : goal.overflow_cast-y
overflow_cast-y c = omega (arith, both_codes c.loop-i.invariant c.requires.two c.loop-i-test.true)

pub overflow_mul-parts : goal.overflow_mul-parts
overflow_mul-parts c = omega (arith, both_codes c.loop-i.invariant c.requires.two c.loop-i-test.true)

pub overflow_add-parts : goal.overflow_add-parts
overflow_add-parts c = omega (arith, both_codes c.loop-i.invariant c.requires.two c.loop-i-test.true)

pub bounds-table-x : goal.bounds-table-x
bounds-table-x c = omega (arith, both_codes c.loop-i.invariant c.requires.two c.loop-i-test.true)

pub overflow_add-parts-in-loop-i : goal.overflow_add-parts-in-loop-i
overflow_add-parts-in-loop-i c = omega (arith, c.requires.two.first.room, c.well_formed)

pub bounds-parts-o-in-loop-i : goal.bounds-parts-o-in-loop-i
bounds-parts-o-in-loop-i c =
    read_there c.loop-i.invariant c.requires.two.first c.loop-i-test.true (omega arith)

pub loop-i-preserved : goal.loop-i-preserved
loop-i-preserved c =
    stating_next c.loop-i.invariant c.loop-i-test.true (looked_is c.loop-i.invariant c.requires.two
    c.loop-i-test.true c.requires.states)

pub shape_of-parts : goal.shape_of-parts
shape_of-parts c = stating_length c.loop-i.invariant

pub returns : goal.returns
returns c = stating_end c.loop-i.invariant c.loop-i-test.false
