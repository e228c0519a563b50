use native.Mathlib.Omega.{arith}
use mathlib.Core.Path.{ap, sym, ◌∙◌}
use mathlib.Core.List.{List}
use Rattle.trees.specs.Parts.{vector_at}
use Rattle.steady_pins.specs.Finding as define
use Prim.Native.Nat.{ℕ}
use Rattle.trees.proofs.Starts.{of_boolean, ends_pos}
use Rattle.trees.proofs.Vectors.{vector_pos}
use Rattle.steady_pins.proofs.StepParts.{with_step, step_right, operand_ends}
use Rattle.steady_pins.proofs.StepParts.{name_own, other_own, with_own}
use Rattle.steady_pins.proofs.steps.+own.Goals as goal

pub overflow_sub-at : goal.overflow_sub-at
overflow_sub-at t c = let p = vector_pos _ _ _ c.requires.is.ends in omega arith

pub bounds-tree-at : goal.bounds-tree-at
bounds-tree-at t c =
    let p = vector_pos _ _ _ c.requires.is.ends in omega (arith, c.requires.is.ends.within)

pub overflow_sub-c : goal.overflow_sub-c
overflow_sub-c t c = ends_pos (of_boolean (operand_ends _ _ _ c.requires.is.ends c.if-b-ge64.true))

pub bounds-tree-at-then-b-ge64 : goal.bounds-tree-at-then-b-ge64
bounds-tree-at-then-b-ge64 t c =
    let p = vector_pos _ _ _ c.requires.is.ends in omega (arith, c.requires.is.ends.within)

pub overflow_cast-r : goal.overflow_cast-r
overflow_cast-r t c = omega (arith, c.requires.is.few)

pub overflow_cast-r-then-c-lt32 : goal.overflow_cast-r-then-c-lt32
overflow_cast-r-then-c-lt32 t c = omega (arith, c.if-c-lt32.true)

pub bounds-r-c : goal.bounds-r-c
bounds-r-c t c = c.if-c-lt32.true

pub returns-then-c-lt32 : goal.returns-then-c-lt32
returns-then-c-lt32 t c = sym (name_own _ _ _ _ c.requires.is.ends c.if-b-ge64.true c.if-c-lt32.true)

pub returns-else-c-lt32 : goal.returns-else-c-lt32
returns-else-c-lt32 t c = sym (other_own _ _ _ _ c.requires.is.ends c.if-b-ge64.true c.if-c-lt32.false)

pub start_of-left-requires : goal.start_of-left-requires
start_of-left-requires t c = step_right _ _ _ c.requires c.if-b-ge64.false

pub own-r-requires : goal.own-r-requires
own-r-requires t c =
    let p = vector_pos _ _ _ c.requires.is.ends in (
      omega (arith, c.decreases),
      (with_step _ _ _ c.requires c.if-b-ge64.false c.start_of-left.ensures).right,
    )

pub own-requires : goal.own-requires
own-requires t c =
    let s = c.start_of-left.ensures in (
      omega (arith, c.decreases, s.before),
      (with_step _ _ _ c.requires c.if-b-ge64.false s).left,
    )

pub returns : goal.returns
returns t c =
    c.own.ensures
    ∙ ap (λ (x : List ℕ). define.own c.start_of-left.result
    (vector_at c.args.tree.now c.args.names c.start_of-left.result) x) c.own-r.ensures
    ∙ sym (with_own _ _ _ _ (with_step _ _ _ c.requires c.if-b-ge64.false c.start_of-left.ensures))
