-- `trees::sorts::part_of` and `start_of_made` meet their contracts, by recursion on the bytes before `end`.
use Prim.Native.Nat.{◌+◌, ◌*◌}
use Rattle.trees.proofs.sorts.+part.Given as goal

abbrev pub decreases-part_of : goal.decreases-part_of
decreases-part_of l = 2 * l.end + 1

abbrev pub decreases-start_of_made : goal.decreases-start_of_made
decreases-start_of_made l = 2 * l.end
