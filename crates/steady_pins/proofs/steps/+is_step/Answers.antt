use native.Mathlib.Omega.{arith}
use mathlib.Core.Path.{sym, ◌∙◌}
use Rattle.trees.proofs.Vectors.{vector_pos, right_ends}
use Rattle.steady_pins.proofs.StepParts.{edge_step, no_step, with_joined, with_first, with_second}
use Rattle.steady_pins.proofs.steps.+is_step.Goals as goal

pub overflow_sub-at : goal.overflow_sub-at
overflow_sub-at t c = let p = vector_pos _ _ _ c.requires in omega arith

pub bounds-tree-at : goal.bounds-tree-at
bounds-tree-at t c = let p = vector_pos _ _ _ c.requires in omega (arith, c.requires.within)

pub returns-then-b-ge64 : goal.returns-then-b-ge64
returns-then-b-ge64 t c = sym (edge_step _ _ _ c.requires c.if-b-ge64.true)

pub returns-then-b-ne54 : goal.returns-then-b-ne54
returns-then-b-ne54 t c = sym (no_step _ _ _ c.requires c.if-b-ge64.false c.if-b-ne54.true)

pub start_of-left-requires : goal.start_of-left-requires
start_of-left-requires t c =
    right_ends _ _ _ c.requires c.if-b-ge64.false (λ e. omega (arith, c.if-b-ne54.false))

pub is_step-requires : goal.is_step-requires
is_step-requires t c =
    let s = c.start_of-left.ensures in (
      omega (arith, c.decreases, s.before),
      (with_joined _ _ _ c.requires c.if-b-ne54.false s).left,
    )

pub is_step-requires-then-is_step : goal.is_step-requires-then-is_step
is_step-requires-then-is_step t c =
    let p = vector_pos _ _ _ c.requires in (
      omega (arith, c.decreases),
      (with_joined _ _ _ c.requires c.if-b-ne54.false c.start_of-left.ensures).right,
    )

pub returns-then-is_step : goal.returns-then-is_step
returns-then-is_step t c =
    with_second _ _ _ c.if-b-ne54.false
    (with_joined _ _ _ c.requires c.if-b-ne54.false c.start_of-left.ensures)
    (sym c.if-is_step.true ∙ c.is_step.ensures) c.is_step-then-is_step.ensures

pub returns : goal.returns
returns t c =
    with_first _ _ _ c.if-b-ne54.false
    (with_joined _ _ _ c.requires c.if-b-ne54.false c.start_of-left.ensures)
    (sym c.if-is_step.false ∙ c.is_step.ensures)
