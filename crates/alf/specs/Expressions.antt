-- Document 01, "Text": what an expression is once its text is read. Brackets leave no trace; an operator has a name.
-- A name is its number in the list of names, counted from 0; a literal is the code of its state.
--   Binary, Boolean                      operators of two booleans; boolean expressions
--   Half, Edge, Join, Side, Vector   edges, operators of two vectors, where a condition stands; vector expressions
--   Expression                           either
--   Over, HalfKnown, EdgeKnown, VectorOver, ExpressionOver     over a number of names, with known states
use Rattle.std.specs.Prelude.{ℕ, ◌<◌}

-- operators of two booleans: & | ^ ~^ == != > < >= <=
pub data Binary : Type 0 where
  and or xor xnor equals differs above below is_at_least is_at_most : Binary

pub data Boolean : Type 0 where
  name : ℕ → Boolean
  literal : ℕ → Boolean
  -- ! a
  negated : Boolean → Boolean
  binary : Binary → Boolean → Boolean → Boolean
  -- c ? a : b
  choice : Boolean → Boolean → Boolean → Boolean

-- one half of an edge: `?`, or the literal of a state
pub data Half : Type 0 where
  any : Half
  the : ℕ → Half

-- two halves; `?!`; `?-`
pub data Edge : Type 0 where
  pair : Half → Half → Edge
  changes : Edge
  stays : Edge

-- operators of two vectors: -> <-> &> <&> & |
pub data Join : Type 0 where
  followed_by_join either_order with_or_then any_order with or_else : Join

-- where a condition stands: P & c, or c & P
pub data Side : Type 0 where
  on_right on_left : Side

pub data Vector : Type 0 where
  edge : Edge → Boolean → Vector
  join : Join → Vector → Vector → Vector
  -- P & c
  while : Side → Vector → Boolean → Vector

pub data Expression : Type 0 where
  boolean : Boolean → Expression
  vector : Vector → Expression

-- An expression over a number of names: each name is one of them, and each literal the code of a state.
unfoldable pub Over : ℕ → Boolean → Type 0
Over n (name i) = i < n
Over n (literal s) = s < 8
Over n (negated a) = Over n a
Over n (binary o a b) = Over n a × Over n b
Over n (choice c a b) = Over n c × Over n a × Over n b

unfoldable pub HalfKnown : Half → Type 0
HalfKnown any = Unit {0}
HalfKnown (the s) = s < 8

unfoldable pub EdgeKnown : Edge → Type 0
EdgeKnown (pair f t) = HalfKnown f × HalfKnown t
EdgeKnown changes = Unit {0}
EdgeKnown stays = Unit {0}

unfoldable pub VectorOver : ℕ → Vector → Type 0
VectorOver n (edge e c) = EdgeKnown e × Over n c
VectorOver n (join j p q) = VectorOver n p × VectorOver n q
VectorOver n (while s p c) = VectorOver n p × Over n c

unfoldable pub ExpressionOver : ℕ → Expression → Type 0
ExpressionOver n (boolean c) = Over n c
ExpressionOver n (vector p) = VectorOver n p
