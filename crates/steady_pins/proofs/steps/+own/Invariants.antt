-- `steps::own` meets its contract, by recursion on the bytes before `end`.
use Rattle.steady_pins.proofs.steps.+own.Given as goal

abbrev pub decreases-own : goal.decreases-own
decreases-own l = l.end
