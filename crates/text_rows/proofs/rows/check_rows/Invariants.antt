-- `check_rows` meets its contract.
use Prim.Native.Nat.{◌-◌}
use lib.ListN.{length}
use Rattle.text_rows.proofs.Rowing.{Rowing}
use Rattle.text_rows.proofs.rows.check_rows.Given as goal

abbrev pub invariant-loop-at : goal.invariant-loop-at
invariant-loop-at l = Rowing l.text l.p l.k l.wide l.at l.r l.last

abbrev pub decreases-loop-at : goal.decreases-loop-at
decreases-loop-at l = length l.text - l.at
