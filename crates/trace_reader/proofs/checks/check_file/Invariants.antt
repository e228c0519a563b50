-- `check_file` meets its contract.
use Prim.Native.Nat.{◌-◌}
use lib.ListN.{length}
use Rattle.trace_format.specs.Records.{Before}
use Rattle.record_checks.specs.Steps.{Stands}
use Rattle.trace_reader.proofs.checks.check_file.Given as goal

abbrev pub invariant-loop-s : goal.invariant-loop-s
invariant-loop-s l = Stands l.file l.s × Before l.file l.s.names l.s.rows

abbrev pub decreases-loop-s : goal.decreases-loop-s
decreases-loop-s l = length l.file - l.s.place
