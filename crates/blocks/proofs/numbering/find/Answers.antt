use native.Mathlib.Omega.{arith}
use Rattle.blocks.proofs.Columns.{found_here, found_none}
use Rattle.blocks.proofs.numbering.find.Goals as goal

pub bounds-kinds-c : goal.bounds-kinds-c
bounds-kinds-c c = omega (arith, c.requires.edges)

pub offset_bounds-ends-c : goal.offset_bounds-ends-c
offset_bounds-ends-c c = omega (arith, c.requires.few)

pub bounds-ends-c : goal.bounds-ends-c
bounds-ends-c c = omega (arith, c.requires.operands)

pub overflow_cast-ends : goal.overflow_cast-ends
overflow_cast-ends c = omega (arith, c.type_inv.ends c.loop-c.c)

pub same_operand-requires : goal.same_operand-requires
same_operand-requires c = (c.requires.at c.loop-c.c c.loop-c-test.true, c.requires.this)

pub returns-then-same_operand : goal.returns-then-same_operand
returns-then-same_operand c =
    found_here _ _ _ _ _ _ _ c.loop-c-test.true c.if-kinds-c.true c.same_operand.ensures
    c.if-same_operand.true

pub returns : goal.returns
returns c = found_none _ _ _ _ _ _
