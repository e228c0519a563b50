-- `sizes::shape_of` meets its contract, by recursion on the bytes before `end`.
use Rattle.acceptance.proofs.sizes.+shape_of.Given as goal

abbrev pub decreases-shape_of : goal.decreases-shape_of
decreases-shape_of l = l.end
