-- `write_in` lends a beginning of the buffer.
use native.Mathlib.Omega.{arith}
use mathlib.Core.Path.{sym}
use lib.Seq.{length-take-le}
use Rattle.texts_runs.proofs.shown.write_in.Goals as goal

pub slice_bounds-write_expression-end-then-room-out : goal.slice_bounds-write_expression-end-then-room-out
slice_bounds-write_expression-end-then-room-out c = sym (length-take-le _ _ (omega arith))
