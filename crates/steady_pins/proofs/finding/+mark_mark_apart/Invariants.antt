-- The recursion goes by the bytes before `end`. At the same end `mark` calls `mark_apart`, and not the other way round.
use Rattle.std.proofs.Common.{◌+◌, ◌*◌}
use Rattle.steady_pins.proofs.finding.+mark_mark_apart.Given as goal

abbrev pub decreases-mark : goal.decreases-mark
decreases-mark l = 2 * l.end + 1

abbrev pub decreases-mark_apart : goal.decreases-mark_apart
decreases-mark_apart l = 2 * l.end
