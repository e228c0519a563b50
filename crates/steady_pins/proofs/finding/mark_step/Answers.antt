-- `finding::mark_step` meets its contract.
use native.Mathlib.Omega.{arith}
use Rattle.trees.proofs.Vectors.{vector_pos}
use Rattle.steady_pins.proofs.WalkedSteps.{step_many, step_row, step_rows, step_walked}
use Rattle.steady_pins.proofs.finding.mark_step.Goals as goal

pub overflow_sub-row : goal.overflow_sub-row
overflow_sub-row c = vector_pos _ _ _ c.requires.walk.is.ends

pub settle-requires : goal.settle-requires
settle-requires c = step_rows c.requires

pub put_step-requires : goal.put_step-requires
put_step-requires c = step_row c.requires

pub overflow_cast-rows : goal.overflow_cast-rows
overflow_cast-rows c = omega (arith, step_row c.requires)

pub bounds-rows-many : goal.bounds-rows-many
bounds-rows-many c = step_many c.requires

pub overflow_add-result : goal.overflow_add-result
overflow_add-result c = omega (arith, step_many c.requires)

pub returns : goal.returns
returns c =
    step_walked c.requires c.look-mine.ensures c.settle.ensures
    c.put_step.ensures c.pass-beside.ensures
