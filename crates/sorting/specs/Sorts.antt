-- Document 01, "Sorts": the expression that a tree of tokens is, or the place of its first faulty operator, operands
-- before operator, left before right.
--   Sorted                          an expression, or the place of a fault
--   atom, of_one, of_two, of_three     what a node makes of its operands
--   given, sorted                   an operand and what is made of it; the whole tree
--   asked, sorted_for                the sort that the call asks for
use Rattle.std.specs.Prelude.{ℕ, ◌-◌, eqb, ltb, if◌then◌else◌}
use Rattle.alf.specs.declared.Sort.{Sort}
use Rattle.alf.specs.declared.Sort.TheVariants as the_sort
use Rattle.alf.specs.Expressions.{Boolean, name, literal, negated, binary, choice, edge, join, while}
use Rattle.alf.specs.Expressions.{with, or_else, on_right, on_left, Expression, boolean, vector}
use Rattle.alf.specs.Decoder.{binary_at, join_at, edge_at}
use Rattle.grammar.specs.declared.Token.{Token}
use Rattle.grammar.specs.Grammar.{Tree, leaf, one, two, three}

-- an expression, or the place of the first faulty operator
pub data Sorted : Type 0 where
  is : Expression → Sorted
  faulty : ℕ → Sorted

-- names and literals are boolean
unfoldable pub atom : (ℕ → ℕ) → Token → Boolean
atom number t = if eqb t.code 0 then name (number t.place) else literal (t.code - 32)

-- an edge takes a boolean and gives a vector; `!` takes a boolean
unfoldable pub of_one : Token → Expression → Sorted
of_one t (boolean c) =
    if eqb t.code 147 then is (boolean (negated c)) else is (vector (edge (edge_at (t.code - 64)) c))
of_one t (vector p) = faulty t.place

-- `&` takes any, it is boolean only for two booleans; `|` takes two of one sort; level 2 takes booleans, level 4
-- vectors
unfoldable pub of_two : Token → Expression → Expression → Sorted
of_two t (boolean a) (boolean b) =
    if ltb t.code 50 then is (boolean (binary (binary_at (t.code - 40)) a b)) else faulty t.place
of_two t (vector p) (vector q) =
    if eqb t.code 40 then is (vector (join with p q))
    else if eqb t.code 41 then is (vector (join or_else p q))
    else if ltb t.code 50 then faulty t.place
    else is (vector (join (join_at (t.code - 50)) p q))
of_two t (vector p) (boolean c) = if eqb t.code 40 then is (vector (while on_right p c)) else faulty t.place
of_two t (boolean c) (vector p) = if eqb t.code 40 then is (vector (while on_left p c)) else faulty t.place

-- the ternary takes booleans; its place is its `?`
unfoldable pub of_three : Token → Expression → Expression → Expression → Sorted
of_three t (boolean c) (boolean a) (boolean b) = is (boolean (choice c a b))
of_three t (boolean c) (boolean a) (vector q) = faulty t.place
of_three t (boolean c) (vector p) y = faulty t.place
of_three t (vector r) x y = faulty t.place

-- an operand, and what is made of it
unfoldable pub given : Sorted → (Expression → Sorted) → Sorted
given (is x) f = f x
given (faulty p) f = faulty p

-- operands before operator, left before right; `number` is the number of the name that stands at a byte
unfoldable pub sorted : (ℕ → ℕ) → Tree → Sorted
sorted number (leaf t) = is (boolean (atom number t))
sorted number (one t a) = given (sorted number a) (of_one t)
sorted number (two t a b) = given (sorted number a) (λ x. given (sorted number b) (of_two t x))
sorted number (three t c a b) =
    given (sorted number c) (λ z. given (sorted number a) (λ x. given (sorted number b) (of_three t z x)))

-- last, the sort asked for by the call: a wrong one has the text's length as place
unfoldable pub asked : Sort → ℕ → Expression → Sorted
asked the_sort.Boolean bytes (boolean c) = is (boolean c)
asked the_sort.Boolean bytes (vector p) = faulty bytes
asked the_sort.Vector bytes (boolean c) = faulty bytes
asked the_sort.Vector bytes (vector p) = is (vector p)

unfoldable pub sorted_for : Sort → ℕ → (ℕ → ℕ) → Tree → Sorted
sorted_for sort bytes number e = given (sorted number e) (asked sort bytes)
