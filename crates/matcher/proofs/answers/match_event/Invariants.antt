-- `matcher::answers::match_event` meets its contract. The loop's invariant is Walking: with the alternatives still to
-- be tried, `best` comes to the best of all and k to the number tried.
use Rattle.matcher.proofs.Walking.{Walking}
use Rattle.matcher.specs.Scenes.{state_on, tests_on}
use Rattle.matcher.proofs.answers.match_event.Given as goal

abbrev pub invariant-loop-k : goal.invariant-loop-k
invariant-loop-k l =
    Walking (state_on l.scene) l.lists.steps.now l.lists.tests.now (tests_on l.scene l.lists) l.row l.best l.s l.t l.k
