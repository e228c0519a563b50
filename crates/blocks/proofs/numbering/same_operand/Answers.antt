-- `numbering::same_operand` meets its contract.
use native.Mathlib.Omega.{arith}
use borrow.Author.Tests.{eqb-true}
use Rattle.blocks.proofs.Columns.{place_same, names_same, else_same}
use Rattle.blocks.proofs.numbering.same_operand.Goals as goal

pub returns-then-x-y : goal.returns-then-x-y
returns-then-x-y c = place_same c.if-x-y.true

pub overflow_sub-a : goal.overflow_sub-a
overflow_sub-a c = omega (arith, c.requires.0.some)

pub bounds-tree-x : goal.bounds-tree-x
bounds-tree-x c = omega (arith, c.requires.0.some, c.requires.0.within)

pub returns-then-a-ge32 : goal.returns-then-a-ge32
returns-then-a-ge32 c = else_same

pub overflow_sub-result : goal.overflow_sub-result
overflow_sub-result c = omega (arith, c.requires.1.some)

pub bounds-tree-y : goal.bounds-tree-y
bounds-tree-y c = omega (arith, c.requires.1.some, c.requires.1.within)

pub returns : goal.returns
returns c = names_same _ _ _ (omega (arith, c.if-a-ge32.false)) (eqb-true _ _)
