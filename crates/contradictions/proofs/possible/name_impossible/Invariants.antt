-- `rewriting::possible::name_impossible` meets its contract. The loop's invariant: the rows passed have a possible
-- state.
use Rattle.contradictions.proofs.RowsOf.{Rowing}
use Rattle.alternatives.specs.Listed.{tests_listed}
use Rattle.contradictions.proofs.possible.name_impossible.Given as goal

abbrev pub invariant-loop-j : goal.invariant-loop-j
invariant-loop-j l =
    Rowing l.lists.tests.now (tests_listed l.tree l.names l.lists) l.s l.n l.t l.name l.at l.before l.j
