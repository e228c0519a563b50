-- The parts of a tree: the expression that ends at a place, and where it starts.
--   is_whole, top                         an expression on top of a stack
--   Ends, EndsBoolean, EndsVector        the bytes before a place end with an expression
--   expression_at, boolean_at, vector_at    that expression
--   Start                                where it starts
use Rattle.std.specs.Prelude.{ℕ, ◌+◌, ◌<◌, ◌≤◌, ◌≡◌, Bool, true, false, List, length}
use Rattle.alf.specs.Expressions.{Boolean, literal, Vector, Expression, boolean}
use Rattle.alf.specs.Bytes.{bytes_of}
use Rattle.alf.specs.Decoder.{Stack, empty, broken, push, is_boolean, is_vector, top_boolean, top_vector}
use Rattle.alf.specs.Decoder.{under, stack_at}

-- an expression is on top; which one, where there is one
unfoldable pub is_whole : Stack → Bool
is_whole empty = false
is_whole broken = false
is_whole (push e s) = true

unfoldable pub top : Stack → Expression
top empty = boolean (literal 0)
top broken = boolean (literal 0)
top (push e s) = e

-- the bytes before `end` end with a whole expression; with a boolean one; with a vector one
pub record Ends (tree : List ℕ) (names end : ℕ) : Type 0 where
  pub within : end ≤ length tree
  pub whole : is_whole (stack_at tree names end) ≡ true

pub record EndsBoolean (tree : List ℕ) (names end : ℕ) : Type 0 where
  pub within : end ≤ length tree
  pub whole : is_boolean (stack_at tree names end) ≡ true

pub record EndsVector (tree : List ℕ) (names end : ℕ) : Type 0 where
  pub within : end ≤ length tree
  pub whole : is_vector (stack_at tree names end) ≡ true

-- that expression
abbrev pub expression_at : List ℕ → ℕ → ℕ → Expression
expression_at tree names end = top (stack_at tree names end)

abbrev pub boolean_at : List ℕ → ℕ → ℕ → Boolean
boolean_at tree names end = top_boolean (stack_at tree names end)

abbrev pub vector_at : List ℕ → ℕ → ℕ → Vector
vector_at tree names end = top_vector (stack_at tree names end)

-- it starts as many bytes before `end` as it has; so what stands before it is left of the stack
pub record Start (tree : List ℕ) (names end start : ℕ) : Type 0 where
  pub is : start + length (bytes_of (expression_at tree names end)) ≡ end
  pub before : start < end
  pub left : stack_at tree names start ≡ under (stack_at tree names end)
