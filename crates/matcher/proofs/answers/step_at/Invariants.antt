-- `matcher::answers::step_at` meets its contract. The loop's invariant: with the tests still to be asked, `least` comes
-- to the least of all.
use Rattle.matcher.proofs.Matching.{Asking}
use Rattle.matcher.specs.Scenes.{state_on, tests_on}
use Rattle.matcher.proofs.answers.step_at.Given as goal

abbrev pub invariant-loop-i : goal.invariant-loop-i
invariant-loop-i l =
    Asking (state_on l.scene) (tests_on l.scene l.lists) l.t l.n l.a l.least l.i
