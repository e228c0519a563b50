-- `filling::fill` meets its contract, by recursion on the bytes before `end`.
use Rattle.window_answers.proofs.filling.+fill.Given as goal

abbrev pub decreases-fill : goal.decreases-fill
decreases-fill l = l.end
