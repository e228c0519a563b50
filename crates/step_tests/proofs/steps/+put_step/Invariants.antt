-- The recursion goes by the bytes before `end`.
use Rattle.step_tests.proofs.steps.+put_step.Given as goal

abbrev pub decreases-put_step : goal.decreases-put_step
decreases-put_step l = l.end
