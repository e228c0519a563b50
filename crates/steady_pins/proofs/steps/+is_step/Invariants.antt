-- `steps::is_step` meets its contract, by recursion on the bytes before `end`.
use Rattle.steady_pins.proofs.steps.+is_step.Given as goal

abbrev pub decreases-is_step : goal.decreases-is_step
decreases-is_step l = l.end
