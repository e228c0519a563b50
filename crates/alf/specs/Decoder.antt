-- From bytes to an expression, for the functions that go over a tree. Nothing here needs to be believed: that these
-- bytes are this expression is said by `Encodes` (Bytes.antt), and it is a law that the stack says the same.
--   Stack, Operation, run, stack_at       the stack that the first n bytes build
--   binary_at, join_at, half_at, edge_at, negation, edging, leaf_at, pair_at, three_at, one_at, operation_at   what a byte does
--   arity_at                              how many operands it takes
--   is_boolean, is_vector, top_boolean, top_vector, under, if_so     the top of the stack, and what is under it
--   Decodes                              the stack ends with this expression alone
use Rattle.std.specs.Prelude.{ℕ, zero, suc, ◌-◌, ◌/◌, ◌%◌, Bool, true, false, ◌&&◌, ◌≡◌, List, [], ◌∷◌, eqb, ltb, get_or, length, if◌then◌else◌}
use Rattle.alf.specs.Expressions.{Boolean, name, literal, negated, binary, choice}
use Rattle.alf.specs.Expressions.{Binary, and, or, xor, xnor, equals, differs, above, below, is_at_least, is_at_most}
use Rattle.alf.specs.Expressions.{Half, any, the, Edge, pair, changes, stays, Vector, edge, join, while}
use Rattle.alf.specs.Expressions.{Join, followed_by_join, either_order, with_or_then, any_order, with, or_else}
use Rattle.alf.specs.Expressions.{Side, on_right, on_left, Expression, boolean, vector}

-- Each byte takes its operands from a stack of expressions and puts what it makes of them there.
pub data Stack : Type 0 where
  empty : Stack
  broken : Stack
  push : Expression → Stack → Stack

pub data Operation : Type 0 where
  leaf : Boolean → Operation
  of_one : (Boolean → Expression) → Operation
  of_two : (Boolean → Boolean → Boolean) → Operation
  of_three : (Boolean → Boolean → Boolean → Boolean) → Operation
  of_vectors : (Vector → Vector → Vector) → Operation
  of_side : Side → Operation
  wrong : Operation

unfoldable pub binary_at : ℕ → Binary
binary_at k =
    get_or (and ∷ or ∷ xor ∷ xnor ∷ equals ∷ differs ∷ above ∷ below ∷ is_at_least ∷ is_at_most ∷ []) k and

unfoldable pub join_at : ℕ → Join
join_at k = get_or (followed_by_join ∷ either_order ∷ with_or_then ∷ any_order ∷ with ∷ or_else ∷ []) k or_else

unfoldable pub half_at : ℕ → Half
half_at zero = any
half_at (suc s) = the s

unfoldable pub edge_at : ℕ → Edge
edge_at k = if ltb k 81 then pair (half_at (k / 9)) (half_at (k % 9)) else if eqb k 81 then changes else stays

abbrev pub negation : Boolean → Expression
negation c = boolean (negated c)

abbrev pub edging : ℕ → Boolean → Expression
edging k c = vector (edge (edge_at k) c)

-- below 40 no operand, below 60 two, below 64 three, from there on one
unfoldable pub leaf_at : ℕ → ℕ → Operation
leaf_at names b = if ltb b 32 then (if ltb b names then leaf (name b) else wrong) else leaf (literal (b - 32))

unfoldable pub pair_at : ℕ → Operation
pair_at b =
    if ltb b 50 then of_two (binary (binary_at (b - 40)))
    else if ltb b 56 then of_vectors (join (join_at (b - 50)))
    else if eqb b 56 then of_side on_right else if eqb b 57 then of_side on_left else wrong

unfoldable pub three_at : ℕ → Operation
three_at b = if eqb b 60 then of_three choice else wrong

unfoldable pub one_at : ℕ → Operation
one_at b = if ltb b 147 then of_one (edging (b - 64)) else if eqb b 147 then of_one negation else wrong

unfoldable pub operation_at : ℕ → ℕ → Operation
operation_at names b =
    if ltb b 40 then leaf_at names b else if ltb b 60 then pair_at b else if ltb b 64 then three_at b else one_at b

-- how many operands a byte takes
unfoldable pub arity_at : ℕ → ℕ
arity_at b = if ltb b 40 then 0 else if ltb b 60 then 2 else if ltb b 64 then 3 else 1

-- the top of the stack, as a boolean or a vector expression (where it is one), and what is under it
unfoldable pub is_boolean : Stack → Bool
is_boolean empty = false
is_boolean broken = false
is_boolean (push (boolean c) s) = true
is_boolean (push (vector p) s) = false

unfoldable pub is_vector : Stack → Bool
is_vector empty = false
is_vector broken = false
is_vector (push (boolean c) s) = false
is_vector (push (vector p) s) = true

unfoldable pub top_boolean : Stack → Boolean
top_boolean empty = literal 0
top_boolean broken = literal 0
top_boolean (push (boolean c) s) = c
top_boolean (push (vector p) s) = literal 0

unfoldable pub top_vector : Stack → Vector
top_vector empty = edge stays (literal 0)
top_vector broken = edge stays (literal 0)
top_vector (push (boolean c) s) = edge stays (literal 0)
top_vector (push (vector p) s) = p

unfoldable pub under : Stack → Stack
under empty = broken
under broken = broken
under (push e s) = s

unfoldable pub if_so : Bool → Stack → Stack
if_so true s = s
if_so false s = broken

unfoldable pub run : Operation → Stack → Stack
run (leaf c) s = push (boolean c) s
run (of_one f) s = if_so (is_boolean s) (push (f (top_boolean s)) (under s))
run (of_two f) s =
    if_so (is_boolean s && is_boolean (under s))
    (push (boolean (f (top_boolean (under s)) (top_boolean s))) (under (under s)))
run (of_three f) s =
    if_so (is_boolean s && (is_boolean (under s) && is_boolean (under (under s))))
    (push (boolean (f (top_boolean (under (under s))) (top_boolean (under s)) (top_boolean s))) (under (under (under s))))
run (of_vectors f) s =
    if_so (is_vector s && is_vector (under s))
    (push (vector (f (top_vector (under s)) (top_vector s))) (under (under s)))
run (of_side on_right) s =
    if_so (is_boolean s && is_vector (under s))
    (push (vector (while on_right (top_vector (under s)) (top_boolean s))) (under (under s)))
run (of_side on_left) s =
    if_so (is_vector s && is_boolean (under s))
    (push (vector (while on_left (top_vector s) (top_boolean (under s)))) (under (under s)))
run wrong s = broken

-- the stack that the first n bytes build
unfoldable pub stack_at : List ℕ → ℕ → ℕ → Stack
stack_at t names zero = empty
stack_at t names (suc n) = run (operation_at names (get_or t n 0)) (stack_at t names n)

-- the bytes t leave the expression e on the stack, and nothing else
unfoldable pub Decodes : ℕ → List ℕ → Expression → Type 0
Decodes names t e = stack_at t names (length t) ≡ push e empty
