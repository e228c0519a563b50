-- For the functions inside: the signs of a tree in the order of its text, with only needed brackets.
--   signs, tree_at               the signs of a tree where a level is asked for; the tree that ends at a byte
--   code_at, level_at             an operator's token and level, by the tree's byte
--   bracket, opener, closer     a bracket, where it is needed
--   Emitting, EmittingTwo, EmittingThree, Emitted   the signs of an expression are to be written; they are written
use Rattle.std.specs.Prelude.{ℕ, ◌-◌, ◌≤◌, ◌<◌, List, [], ◌∷◌, map, eqb, ltb, leb, get_or, if◌then◌else◌}
use Rattle.basics.specs.Memory.{Put, Room}
use Rattle.grammar.specs.Tokens.{kind}
use Rattle.grammar.specs.Grammar.{Tree}
use Rattle.grammar.specs.Written.{level_of, written}
use Rattle.trees.specs.Parts.{Ends, expression_at}
use Rattle.spelling.specs.Signs.{sign}
use Rattle.writer.specs.Trees.{tree_of}

unfoldable pub signs : ℕ → Tree → List ℕ
signs l e = map sign (written l e)

-- the tree of the expression that ends at `end`
unfoldable pub tree_at : List ℕ → ℕ → ℕ → Tree
tree_at tree names end = tree_of (expression_at tree names end)

-- the token of an operator between two operands, by the tree's byte, and its level
unfoldable pub code_at : ℕ → ℕ
code_at b = if ltb b 54 then b else if eqb b 55 then 41 else 40

unfoldable pub level_at : ℕ → ℕ
level_at b = level_of (kind (code_at b))

-- a bracket at what is of level m, where level l is asked for: none where it is strong enough
unfoldable pub bracket : ℕ → ℕ → ℕ → List ℕ
bracket b l m = if leb m l then [] else b ∷ []

abbrev pub opener : ℕ → ℕ → List ℕ
opener l m = bracket 62 l m

abbrev pub closer : ℕ → ℕ → List ℕ
closer l m = bracket 63 l m

-- the signs of the expression that ends at `end`, where a level is asked for
pub record Emitting (tree : List ℕ) (names end level : ℕ) (out : List ℕ) (at : ℕ) : Type 0 where
  pub ends : Ends tree names end
  pub room : Room out at (signs level (tree_at tree names end))

abbrev pub Emitted : List ℕ → ℕ → ℕ → ℕ → List ℕ → ℕ → List ℕ → ℕ → Type 0
Emitted tree names end level out at out' r = Put out at (signs level (tree_at tree names end)) out' r

-- .. of which the last byte is an operator between two operands, or of a choice
pub record EmittingTwo (tree : List ℕ) (names end level : ℕ) (out : List ℕ) (at : ℕ) : Type 0 where
  pub whole : Emitting tree names end level out at
  pub low : 40 ≤ get_or tree (end - 1) 0
  pub high : get_or tree (end - 1) 0 < 60

pub record EmittingThree (tree : List ℕ) (names end level : ℕ) (out : List ℕ) (at : ℕ) : Type 0 where
  pub whole : Emitting tree names end level out at
  pub low : 60 ≤ get_or tree (end - 1) 0
  pub high : get_or tree (end - 1) 0 < 64
