-- `sums::has_room` meets its contract.
use native.Mathlib.Omega.{arith}
use Rattle.jobs.proofs.Additions.{room_test}
use Rattle.jobs.proofs.sums.has_room.Goals as goal

pub returns : goal.returns
returns c = room_test c.args.sum c.args.more (omega arith)
