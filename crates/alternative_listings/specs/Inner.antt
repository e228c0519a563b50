-- What the functions inside ask, besides alternative_lines' own.
--   Listed, Whole      the lists of an accepted tree, without flags; the tree itself
--   ListedOn, AllLinesOn     the same of lists as code has them
use Rattle.std.specs.Prelude.{ℕ, ◌≤◌, List, length}
use Rattle.alf.specs.Names.{names_in}
use Rattle.alf.specs.declared.Rules.{Rules}
use Rattle.alf.specs.declared.Sort.TheVariants.{Vector}
use Rattle.acceptance.specs.Accepted.{Accepted}
use Rattle.alternatives.specs.declared.lists.Lists.{Lists}
use Rattle.alternatives.specs.InMemory.{Shape}
use Rattle.alternative_lines.specs.Inner.{AllLines}
use Rattle.writer.specs.Writing.{Named}

-- an accepted tree, and checked names
pub record Whole (ρ : Rules) (names tree : List ℕ) : Type 0 where
  pub named : Named names
  pub accepted : Accepted ρ (names_in names) Vector tree

-- the lists of an accepted tree
pub record Listed (names tree steps tests edges operands : List ℕ) : Type 0 where
  pub named : Named names
  pub short : length tree ≤ 256
  pub shape : Shape tree (names_in names) steps tests edges operands

-- the same of lists as code has them
abbrev pub ListedOn : List ℕ → List ℕ → Lists → Type 0
ListedOn names tree l = Listed names tree l.steps.now l.tests.now l.edges.now l.operands.now

abbrev pub AllLinesOn : List ℕ → List ℕ → Lists → List ℕ → ℕ → Type 0
AllLinesOn names tree l flags at =
    AllLines names tree l.steps.now l.tests.now l.edges.now l.operands.now flags at
