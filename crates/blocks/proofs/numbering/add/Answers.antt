-- `numbering::add` meets its contract.
use mathlib.Core.Path.{refl}
use native.Mathlib.Omega.{arith}
use Rattle.blocks.proofs.numbering.add.Goals as goal

pub returns-then-c-many : goal.returns-then-c-many
returns-then-c-many c = record { kept = λ h. (refl, refl, refl); new = λ h. absurd (omega arith) }

pub bounds-kinds-c : goal.bounds-kinds-c
bounds-kinds-c c = omega (arith, c.requires.edges)

pub offset_bounds-ends-c : goal.offset_bounds-ends-c
offset_bounds-ends-c c = omega (arith, c.requires.operands, c.well_formed)

pub bounds-ends-c : goal.bounds-ends-c
bounds-ends-c c = omega (arith, c.requires.operands)

pub overflow_add-result : goal.overflow_add-result
overflow_add-result c = omega (arith, c.requires.operands, c.well_formed)

pub returns : goal.returns
returns c = record { kept = λ h. absurd (omega arith); new = λ h. (refl, refl, refl) }
