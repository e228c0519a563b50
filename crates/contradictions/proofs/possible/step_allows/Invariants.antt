-- `rewriting::possible::step_allows` meets its contract. The loop's invariant: the tests still to be asked allow the
-- state exactly if all of them do.
use Rattle.contradictions.specs.Possible.{side_of}
use Rattle.contradictions.proofs.Allowing.{Allowing}
use Rattle.alternatives.specs.Listed.{tests_listed}
use Rattle.contradictions.proofs.possible.step_allows.Given as goal

abbrev pub invariant-loop-i : goal.invariant-loop-i
invariant-loop-i l =
    Allowing (side_of l.later) (tests_listed l.tree l.names l.lists) l.t l.n l.name l.s l.i
