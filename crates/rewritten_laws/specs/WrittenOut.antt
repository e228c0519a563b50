-- The four lists that `rewrite` has written for a tree, cut to what was written: so its caller hands them to the calls
-- that take alternatives as lists.
--   Lists          four lists
--   WrittenOut     four lists that some call of `rewrite` wrote for a tree
use Rattle.std.specs.Prelude.{Ok}
use Rattle.std.specs.Prelude.{ℕ, ◌≡◌, List, take}
use Rattle.alf.specs.declared.Rules.{Rules}
use Rattle.alternatives.specs.InMemory.{sum}
use Rattle.rewriting_calls.specs.Calls.{Rewrites}

pub record Lists : Type 0 where
  pub steps : List ℕ
  pub tests : List ℕ
  pub edges : List ℕ
  pub operands : List ℕ

-- Some lists were lent to a call, and the call is done with a number of alternatives: any result that its contract
-- allows. Of the first list as many entries are taken as there are alternatives, of the second as many as the steps
-- come to, of the third and the fourth as many as the tests come to.
pub record WrittenOut (ρ : Rules) (names : ℕ) (tree steps tests edges operands : List ℕ) : Type 0 where
  pub lent : Lists
  pub after : Lists
  pub number : ℕ
  pub done : Rewrites ρ names tree lent.steps lent.tests lent.edges lent.operands
      after.steps after.tests after.edges after.operands (Ok number)
  pub steps_are : steps ≡ take number after.steps
  pub tests_are : tests ≡ take (sum steps) after.tests
  pub edges_are : edges ≡ take (sum tests) after.edges
  pub operands_are : operands ≡ take (sum tests) after.operands
