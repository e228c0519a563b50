-- `emit`, `emit_two` and `emit_three`, by recursion on the bytes before `end`: the inner two call `emit` with fewer
-- bytes before `end`, and are called by it with as many.
use Rattle.std.proofs.Common.{◌+◌, ◌*◌}
use Rattle.writer.proofs.layout.+emit_emit_three_emit_two.Given as goal

abbrev pub decreases-emit : goal.decreases-emit
decreases-emit l = 2 * l.end + 1

abbrev pub decreases-emit_three : goal.decreases-emit_three
decreases-emit_three l = 2 * l.end

abbrev pub decreases-emit_two : goal.decreases-emit_two
decreases-emit_two l = 2 * l.end
