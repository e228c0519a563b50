-- `steps::moves` meets its contract, by recursion on the bytes before `end`.
use Rattle.steady_pins.proofs.steps.+moves.Given as goal

abbrev pub decreases-moves : goal.decreases-moves
decreases-moves l = l.end
