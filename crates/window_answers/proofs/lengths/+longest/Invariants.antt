-- `lengths::longest` meets its contract, by recursion on the bytes before `end`.
use Rattle.window_answers.proofs.lengths.+longest.Given as goal

abbrev pub decreases-longest : goal.decreases-longest
decreases-longest l = l.end
