-- `stamps::put` meets its contract.
use mathlib.Core.Path.{◌≡◌, refl}
use Prim.Native.Nat.{◌+◌}
use native.Mathlib.Omega.{arith}
use lib.ListN.{length}
use Rattle.basics.specs.Memory.{placed}
use Rattle.timed_queue.proofs.stamps.put.Goals as goal

pub returns : goal.returns
unfolding placed
returns c =
    let e : 0 + length c.args.from.now ≡ length c.args.from.now = omega arith in
    rw (c.copy_from_slice.ensures.after, e) refl
