-- `operands::is_operand` meets its contract.
use native.Mathlib.Omega.{arith}
use borrow.Author.Rules.{rules}
use Rattle.listed_acceptance.proofs.Acceptance.{operand_long, operand_none, operand_start, operand_is}
use Rattle.listed_acceptance.proofs.operands.is_operand.Goals as goal

pub returns-then-tree-end : goal.returns-then-tree-end
returns-then-tree-end c = operand_long _ _ _ c.if-tree-end.true

pub slice_bounds-part_of-count : goal.slice_bounds-part_of-count
slice_bounds-part_of-count c = omega (arith, c.back-low.ensures)

pub slice_bounds-part_of-start : goal.slice_bounds-part_of-start
slice_bounds-part_of-start c = let e = c.back-low.ensures in search rules

pub overflow_sub-end : goal.overflow_sub-end
overflow_sub-end c = omega (arith, c.back-low.ensures)

pub overflow_add-low : goal.overflow_add-low
overflow_add-low c = omega (arith, operand_start c.in-Some.ensures)

pub slice_bounds-accepts-count : goal.slice_bounds-accepts-count
slice_bounds-accepts-count c = omega (arith, operand_start c.in-Some.ensures)

pub slice_bounds-accepts-start : goal.slice_bounds-accepts-start
slice_bounds-accepts-start c =
    let l = operand_start c.in-Some.ensures in
    search rules

pub returns-in-Some : goal.returns-in-Some
returns-in-Some c =
    operand_is _ _ _ c.back-low.ensures c.if-tree-end.false c.in-Some.ensures _
    (rw c.old_rules.ensures at c.accepts.ensures)

pub returns-in-None : goal.returns-in-None
returns-in-None c = operand_none _ _ _ c.back-low.ensures c.if-tree-end.false c.in-None.ensures
