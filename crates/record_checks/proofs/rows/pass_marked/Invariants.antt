-- `pass_marked` meets its contract.
use Prim.Native.Nat.{◌-◌}
use lib.ListN.{length}
use Rattle.record_checks.specs.Steps.{Onward}
use Rattle.record_checks.proofs.rows.pass_marked.Given as goal

abbrev pub invariant-loop-s : goal.invariant-loop-s
invariant-loop-s l = Onward l.file l.initial.s l.s

abbrev pub decreases-loop-s : goal.decreases-loop-s
decreases-loop-s l = length l.file - l.s.place
