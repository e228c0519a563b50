-- `notes::pins_at` meets its contract.
use native.Mathlib.Omega.{arith}
use Rattle.acceptance.proofs.notes.pins_at.Goals as goal

pub returns : goal.returns
returns c = c.requires.0.are _ c.requires.1 (omega arith)

pub overflow_cast-result : goal.overflow_cast-result
overflow_cast-result c = omega (arith, (returns c).few)
