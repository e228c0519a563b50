-- What matching is about, as code has it: a scene, and alternatives in lists.
--   state_on                      the state of a boolean expression at a row of a scene
--   tests_on, alternatives_on     the tests and the alternatives that the lists stand for
use Rattle.std.specs.Prelude.{ℕ, List}
use Rattle.alf.specs.Expressions.{Boolean}
use Rattle.alf.specs.Values.{state_at}
use Rattle.alf.specs.Alternatives.{Test, Alternative}
use Rattle.alternatives.specs.declared.lists.Lists.{Lists}
use Rattle.alternatives.specs.Listed.{tests_listed, alternatives_listed}
use Rattle.matcher.specs.declared.scenes.Scene.{Scene}

abbrev pub state_on : Scene → Boolean → ℕ → ℕ
state_on s = state_at s.rules s.names s.states.now

abbrev pub tests_on : Scene → Lists → List Test
tests_on s l = tests_listed s.tree.now s.names l

abbrev pub alternatives_on : Scene → Lists → List Alternative
alternatives_on s l = alternatives_listed s.tree.now s.names l
