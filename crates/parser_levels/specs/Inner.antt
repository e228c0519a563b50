-- What a level's function of the parser says: Ran.
use Rattle.std.specs.Prelude.{ℕ, ◌≡◌, List, length}
use Rattle.grammar.specs.Views.{Does}
use Rattle.parser_steps.specs.declared.State.{State}
use Rattle.parser_steps.specs.Inner.{view, Moved}

-- a level's function: an expression of level l was read, or it stopped where none goes on
pub record Ran (l : ℕ) (cs : List ℕ) (s : State) (ns : List ℕ) (r : State) (ns' : List ℕ) : Type 0 where
  pub moved : Moved cs s r
  pub whole : length ns' ≡ 256
  pub does : (ps : List ℕ) → length ps ≡ length cs → Does l l (view cs ps s ns) (view cs ps r ns')
