-- The bytes of an expression, one a node, operands before their operator: same expression, same bytes.
--   0 to 31    a name                              56          P & c
--   32 to 39   a literal, by its state's code      57          c & P
--   40 to 49   & | ^ ~^ == != > < >= <=            60          ? :
--   50 to 55   -> <-> &> <&> & | of vectors        64 to 144   an edge, 64 + 9 f + t, halves as ? 0 1 X H L W Z U
--   145 146    ?! and ?-                           147         !
-- Other bytes are the bytes of no expression.
--   binary_byte, join_byte, half_number, edge_number, boolean_bytes, vector_bytes, bytes_of   from an expression to its bytes
--   Encodes                              these bytes are this expression, over a number of names
use Rattle.std.specs.Prelude.{ℕ, ◌+◌, ◌*◌, min, ◌≡◌, List, [], ◌∷◌, ◌++◌}
use Rattle.alf.specs.Expressions.{Boolean, name, literal, negated, binary, choice}
use Rattle.alf.specs.Expressions.{Binary, and, or, xor, xnor, equals, differs, above, below, is_at_least, is_at_most}
use Rattle.alf.specs.Expressions.{Half, any, the, Edge, pair, changes, stays, Vector, edge, join, while}
use Rattle.alf.specs.Expressions.{Join, followed_by_join, either_order, with_or_then, any_order, with, or_else}
use Rattle.alf.specs.Expressions.{on_right, on_left, Expression, boolean, vector, ExpressionOver}

-- From an expression to its bytes.
unfoldable pub binary_byte : Binary → ℕ
binary_byte and = 40
binary_byte or = 41
binary_byte xor = 42
binary_byte xnor = 43
binary_byte equals = 44
binary_byte differs = 45
binary_byte above = 46
binary_byte below = 47
binary_byte is_at_least = 48
binary_byte is_at_most = 49

unfoldable pub join_byte : Join → ℕ
join_byte followed_by_join = 50
join_byte either_order = 51
join_byte with_or_then = 52
join_byte any_order = 53
join_byte with = 54
join_byte or_else = 55

unfoldable pub half_number : Half → ℕ
half_number any = 0
half_number (the s) = s + 1

-- an edge's number: 0 to 80 two halves, 81 ?!, 82 ?-
unfoldable pub edge_number : Edge → ℕ
edge_number (pair f t) = 9 * half_number f + half_number t
edge_number changes = 81
edge_number stays = 82

unfoldable pub boolean_bytes : Boolean → List ℕ
boolean_bytes (name i) = i ∷ []
boolean_bytes (literal s) = (32 + s) ∷ []
boolean_bytes (negated a) = boolean_bytes a ++ (147 ∷ [])
boolean_bytes (binary o a b) = boolean_bytes a ++ (boolean_bytes b ++ (binary_byte o ∷ []))
boolean_bytes (choice c a b) = boolean_bytes c ++ (boolean_bytes a ++ (boolean_bytes b ++ (60 ∷ [])))

unfoldable pub vector_bytes : Vector → List ℕ
vector_bytes (edge e c) = boolean_bytes c ++ ((64 + edge_number e) ∷ [])
vector_bytes (join j p q) = vector_bytes p ++ (vector_bytes q ++ (join_byte j ∷ []))
vector_bytes (while on_right p c) = vector_bytes p ++ (boolean_bytes c ++ (56 ∷ []))
vector_bytes (while on_left p c) = boolean_bytes c ++ (vector_bytes p ++ (57 ∷ []))

unfoldable pub bytes_of : Expression → List ℕ
bytes_of (boolean c) = boolean_bytes c
bytes_of (vector p) = vector_bytes p

-- The bytes t are those of the expression e, over a number of names; no more than 32, as a name's byte is below 32.
pub record Encodes (names : ℕ) (t : List ℕ) (e : Expression) : Type 0 where
  pub bytes : bytes_of e ≡ t
  pub over : ExpressionOver (min names 32) e
