-- `trees::parts::start_of` meets its contract. The loop's invariant: from `end` back to `at`, `need` expressions are
-- still to be passed.
use Rattle.trees.proofs.Starts.{Going}
use Rattle.trees.proofs.parts.start_of.Given as goal

abbrev pub invariant-loop-need : goal.invariant-loop-need
invariant-loop-need l = Going l.tree l.names l.end l.at l.need

abbrev pub decreases-loop-need : goal.decreases-loop-need
decreases-loop-need l = l.at
