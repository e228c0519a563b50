use mathlib.Core.Path.{refl}
use native.Mathlib.Omega.{arith}
use Rattle.loading.proofs.files.read_all.Goals as goal

pub loop-done-init : goal.loop-done-init
loop-done-init g c = (omega arith, refl)

pub loop-done-preserved : goal.loop-done-preserved
loop-done-preserved g c = (omega arith, omega arith)

pub shape_of-buf : goal.shape_of-buf
shape_of-buf g c = c.loop-done.invariant.1
