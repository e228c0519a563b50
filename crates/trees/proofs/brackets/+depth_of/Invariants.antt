-- `trees::brackets::depth_of` meets its contract, by recursion on the bytes before `end`.
use Rattle.trees.proofs.brackets.+depth_of.Given as goal

abbrev pub decreases-depth_of : goal.decreases-depth_of
decreases-depth_of l = l.end
