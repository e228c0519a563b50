-- Refusal 10, for a tree: what is asked of one, short of its text. It is the bytes of an expression of the sort, over
-- the names; it has no more nodes than a text has counted tokens; the brackets that its text needs nest at most 32
-- deep; a vector expression, as the rules read it (document 02, [2]), is within limit 8.
--   sort_of_lem, over_size       the sort of an expression; whether it is over limit 8
--   Accepted               a tree that is accepted
--   Shallow, Limited       what the functions that decide it tell
use Rattle.std.specs.Prelude.{ℕ, ◌≤◌, ◌≡◌, Bool, false, List, length}
use Rattle.alf.specs.Expressions.{Expression, boolean, vector}
use Rattle.alf.specs.Bytes.{Encodes}
use Rattle.alf.specs.Alternatives.{alternatives, over_limit}
use Rattle.alf.specs.Steady.{meant}
use Rattle.alf.specs.declared.Rules.{Rules}
use Rattle.alf.specs.declared.Sort.{Sort}
use Rattle.alf.specs.declared.Sort.TheVariants.{Boolean, Vector}
use Rattle.trees.specs.Parts.{expression_at, vector_at}
use Rattle.trees.specs.Brackets.{depth_of}

unfoldable pub sort_of_lem : Expression → Sort
sort_of_lem (boolean c) = Boolean
sort_of_lem (vector p) = Vector

-- a boolean expression has no alternatives; "the limits count it", the expression with its steady pins
unfoldable pub over_size : Rules → Expression → Bool
over_size ρ (boolean c) = false
over_size ρ (vector p) = over_limit (alternatives (meant ρ p))

pub record Accepted (ρ : Rules) (names : ℕ) (sort : Sort) (tree : List ℕ) : Type 0 where
  pub expression : Expression
  pub encodes : Encodes names tree expression
  pub sorted : sort_of_lem expression ≡ sort
  pub tokens : length tree ≤ 256
  pub brackets : depth_of expression ≤ 32
  pub sized : over_size ρ expression ≡ false

-- the expression that a tree is, at its end: how deep its brackets nest, and whether, as it is read, it is within
-- limit 8
abbrev pub Shallow : List ℕ → ℕ → Type 0
Shallow tree names = depth_of (expression_at tree names (length tree)) ≤ 32

abbrev pub Limited : Rules → List ℕ → ℕ → Type 0
Limited ρ tree names = over_limit (alternatives (meant ρ (vector_at tree names (length tree)))) ≡ false
