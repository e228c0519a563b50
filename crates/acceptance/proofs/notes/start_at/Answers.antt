-- `notes::start_at` meets its contract.
use native.Mathlib.Omega.{arith}
use Rattle.trees.proofs.Starts.{ends_pos}
use Rattle.acceptance.proofs.notes.start_at.Goals as goal

pub overflow_cast-result : goal.overflow_cast-result
overflow_cast-result c =
    let h = c.requires.0 in
    omega (arith, h.before _ (ends_pos c.requires.1) (omega arith), h.small)

pub returns : goal.returns
returns c = c.requires.0.starts _ (omega arith) c.requires.1
