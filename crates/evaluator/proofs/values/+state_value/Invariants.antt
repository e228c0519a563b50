-- The recursion goes by the bytes before `end`; a value is found after its state.
use Rattle.std.proofs.Common.{◌+◌, ◌*◌}
use Rattle.evaluator.proofs.values.+state_value.Given as goal

abbrev pub decreases-state : goal.decreases-state
decreases-state l = 2 * l.end

abbrev pub decreases-value : goal.decreases-value
decreases-value l = 2 * l.end + 1
