-- What alternatives in lists stand for, as code has the lists.
--   tests_listed, alternatives_listed     the tests and the alternatives, by a tree's bytes and the number of names
use Rattle.std.specs.Prelude.{ℕ, List}
use Rattle.alf.specs.Alternatives.{Test, Alternative}
use Rattle.alternatives.specs.declared.lists.Lists.{Lists}
use Rattle.alternatives.specs.InMemory.{tests_of, alternatives_of_lem}

abbrev pub tests_listed : List ℕ → ℕ → Lists → List Test
tests_listed tree names l = tests_of tree names l.edges.now l.operands.now

abbrev pub alternatives_listed : List ℕ → ℕ → Lists → List Alternative
alternatives_listed tree names l =
    alternatives_of_lem tree names l.steps.now l.tests.now l.edges.now l.operands.now
