use native.Mathlib.Omega.{arith}
use Rattle.state_columns.proofs.Stating.{stating_first, stating_length, stating_next, stating_end}
use Rattle.state_columns.proofs.Stating.{read_code, read_there, chosen_is}
use Rattle.state_columns.proofs.combining.choose.Goals as goal

pub loop-i-init : goal.loop-i-init
loop-i-init c = stating_first

pub overflow_add-c : goal.overflow_add-c
overflow_add-c c = omega (arith, c.requires.first.room, c.well_formed)

pub bounds-parts-o : goal.bounds-parts-o
bounds-parts-o c = read_there c.loop-i.invariant c.requires.first c.loop-i-test.true (omega arith)

pub overflow_add-x : goal.overflow_add-x
overflow_add-x c = omega (arith, c.requires.second.room, c.well_formed)

pub bounds-parts-p : goal.bounds-parts-p
bounds-parts-p c =
    read_there c.loop-i.invariant c.requires.second c.loop-i-test.true
    (omega (arith, c.requires.apart))

pub overflow_add-y : goal.overflow_add-y
overflow_add-y c = omega (arith, c.requires.third.room, c.well_formed)

pub bounds-parts-q : goal.bounds-parts-q
bounds-parts-q c =
    read_there c.loop-i.invariant c.requires.third c.loop-i-test.true
    (omega (arith, c.requires.behind))

pub chosen_of-requires : goal.chosen_of-requires
chosen_of-requires c = (
  read_code c.loop-i.invariant c.requires.first c.loop-i-test.true (omega arith),
  read_code c.loop-i.invariant c.requires.second c.loop-i-test.true (omega (arith, c.requires.apart)),
  read_code c.loop-i.invariant c.requires.third c.loop-i-test.true
      (omega (arith, c.requires.behind)),
)

pub overflow_add-parts : goal.overflow_add-parts
overflow_add-parts c = omega (arith, c.requires.first.room, c.well_formed)

pub bounds-parts-o-in-loop-i : goal.bounds-parts-o-in-loop-i
bounds-parts-o-in-loop-i c =
    read_there c.loop-i.invariant c.requires.first c.loop-i-test.true (omega arith)

pub loop-i-preserved : goal.loop-i-preserved
loop-i-preserved c =
    stating_next c.loop-i.invariant c.loop-i-test.true (chosen_is c.loop-i.invariant c.requires
    c.loop-i-test.true _ c.args.a c.args.b c.chosen_of.ensures)

pub shape_of-parts : goal.shape_of-parts
shape_of-parts c = stating_length c.loop-i.invariant

pub returns : goal.returns
returns c = stating_end c.loop-i.invariant c.loop-i-test.false
