-- `notes::count_at` meets its contract.
use native.Mathlib.Omega.{arith}
use Rattle.trees.proofs.Vectors.{vector_pos}
use Rattle.acceptance.proofs.notes.count_at.Goals as goal

pub overflow_sub-result : goal.overflow_sub-result
overflow_sub-result c = let p = vector_pos _ _ _ c.requires.1 in omega arith

pub bounds-notes-end : goal.bounds-notes-end
bounds-notes-end c = omega (arith, c.requires.0.small, c.requires.0.long)

pub overflow_cast-result : goal.overflow_cast-result
overflow_cast-result c =
    let h = c.requires in
    omega (arith, h.0.few _ (vector_pos _ _ _ h.1) (omega arith))

pub returns : goal.returns
returns c = c.requires.0.counts _ (omega arith) c.requires.1
