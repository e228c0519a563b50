-- `matcher::answers::alternative_at` meets its contract. The loop's invariant: with the steps still to be asked,
-- `least` comes to the least of all, and their tests start at `at`.
use Prim.Native.Nat.{◌-◌}
use Rattle.matcher.proofs.Matching.{Stepping}
use Rattle.matcher.specs.Scenes.{state_on, tests_on}
use Rattle.matcher.proofs.answers.alternative_at.Given as goal

abbrev pub invariant-loop-j : goal.invariant-loop-j
invariant-loop-j l =
    Stepping (state_on l.scene) l.lists.tests.now (tests_on l.scene l.lists) l.s l.n l.t (l.row - l.n) l.least l.at l.j
