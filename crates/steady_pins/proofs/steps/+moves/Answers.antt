use native.Mathlib.Omega.{arith}
use mathlib.Core.Path.{sym, ◌∙◌}
use Rattle.trees.proofs.Vectors.{vector_pos}
use Rattle.steady_pins.proofs.StepParts.{edge_moves, with_step, step_right, first_moves, second_moves}
use Rattle.steady_pins.proofs.steps.+moves.Goals as goal

pub overflow_sub-at : goal.overflow_sub-at
overflow_sub-at t c = let p = vector_pos _ _ _ c.requires.is.ends in omega arith

pub bounds-tree-at : goal.bounds-tree-at
bounds-tree-at t c =
    let p = vector_pos _ _ _ c.requires.is.ends in omega (arith, c.requires.is.ends.within)

pub returns-then-b-ge64 : goal.returns-then-b-ge64
returns-then-b-ge64 t c =
    c.is_changing.ensures ∙ sym (edge_moves _ _ _ c.requires.is.ends c.if-b-ge64.true)

pub start_of-left-requires : goal.start_of-left-requires
start_of-left-requires t c = step_right _ _ _ c.requires c.if-b-ge64.false

pub moves-requires : goal.moves-requires
moves-requires t c =
    let s = c.start_of-left.ensures in (
      omega (arith, c.decreases, s.before),
      (with_step _ _ _ c.requires c.if-b-ge64.false s).left,
    )

pub returns-then-moves : goal.returns-then-moves
returns-then-moves t c =
    first_moves _ _ _ (with_step _ _ _ c.requires c.if-b-ge64.false c.start_of-left.ensures)
    (sym c.if-moves.true ∙ c.moves.ensures)

pub moves-requires-2 : goal.moves-requires-2
moves-requires-2 t c =
    let p = vector_pos _ _ _ c.requires.is.ends in (
      omega (arith, c.decreases),
      (with_step _ _ _ c.requires c.if-b-ge64.false c.start_of-left.ensures).right,
    )

pub returns : goal.returns
returns t c =
    second_moves _ _ _ (with_step _ _ _ c.requires c.if-b-ge64.false c.start_of-left.ensures)
    (sym c.if-moves.false ∙ c.moves.ensures) c.moves-2.ensures
