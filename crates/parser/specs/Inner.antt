-- What the functions of the parser ask and say of a whole text.
--   Given, Finished    the codes of a whole text, and what they come to
--   Full               the nodes of an answer
use Rattle.std.specs.Prelude.{ℕ, ◌≤◌, ◌≡◌, List, length}
use Rattle.grammar.specs.Tokens.{tokens}
use Rattle.grammar.specs.Views.{Ends}
use Rattle.parser_steps.specs.declared.State.{State}
use Rattle.parser_steps.specs.Inner.{view, counts, Fine}

-- read_all: the codes of a whole text and a list of 256 entries, and what they come to
pub record Given (cs ns : List ℕ) : Type 0 where
  pub small : counts cs ≤ 256
  pub whole : length ns ≡ 256

pub record Finished (cs : List ℕ) (r : State) (ns : List ℕ) : Type 0 where
  pub fine : Fine cs r
  pub whole : length ns ≡ 256
  pub ends : (ps : List ℕ) → length ps ≡ length cs → Ends (tokens cs ps) (view cs ps r ns)

-- accept: the nodes are there
pub record Full (len : ℕ) (ns : List ℕ) : Type 0 where
  pub below : len ≤ 256
  pub whole : length ns ≡ 256
