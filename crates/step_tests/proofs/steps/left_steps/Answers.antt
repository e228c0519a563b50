-- `steps::left_steps` meets its contract.
use native.Mathlib.Omega.{arith}
use mathlib.Core.Path.{sym, ◌∙◌}
use Rattle.step_tests.proofs.StepTests.{exact}
use Rattle.step_tests.proofs.steps.left_steps.Goals as goal

pub overflow_sub-result : goal.overflow_sub-result
overflow_sub-result c = omega (arith, c.requires.both (sym c.in_turn.ensures ∙ c.if-in_turn.true))

pub returns-then-in_turn : goal.returns-then-in_turn
returns-then-in_turn c = omega (arith, c.requires.both (sym c.in_turn.ensures ∙ c.if-in_turn.true))

pub shape_of-x-requires : goal.shape_of-x-requires
shape_of-x-requires c = c.requires.shaping

pub returns : goal.returns
returns c = exact c.requires.short c.shape_of-x.ensures
