-- Document 01, "Text" and "Writing out": the levels of the operators, from strongest to weakest, and how deep the
-- brackets nest in an expression's text with only needed brackets. A name or a literal has level 0.
--   binary_level, join_level, level_of, level_at     levels of operators, of an expression, of the operator at a byte
--   bracketed, boolean_depth, vector_depth, depth_of        how deep brackets nest
use Rattle.std.specs.Prelude.{ℕ, ◌+◌, ◌-◌, max, ltb, if◌then◌else◌}
use Rattle.alf.specs.Expressions.{Binary, and, or, xor, xnor, equals, differs, above, below, is_at_least, is_at_most}
use Rattle.alf.specs.Expressions.{Boolean, name, literal, negated, binary, choice, Vector, edge, join, while}
use Rattle.alf.specs.Expressions.{Join, followed_by_join, either_order, with_or_then, any_order, with, or_else}
use Rattle.alf.specs.Expressions.{on_right, on_left, Expression, boolean, vector}
use Rattle.alf.specs.Decoder.{binary_at, join_at}

-- (1) `! ~` and edges; (2) `^ ~^ == != > < >= <=`; (3) `& &&`; (4) `-> <-> &> <&>`; (5) `| ||`; (6) `? :`
unfoldable pub binary_level : Binary → ℕ
binary_level and = 3
binary_level or = 5
binary_level xor = 2
binary_level xnor = 2
binary_level equals = 2
binary_level differs = 2
binary_level above = 2
binary_level below = 2
binary_level is_at_least = 2
binary_level is_at_most = 2

unfoldable pub join_level : Join → ℕ
join_level followed_by_join = 4
join_level either_order = 4
join_level with_or_then = 4
join_level any_order = 4
join_level with = 3
join_level or_else = 5

unfoldable pub level_of : Expression → ℕ
level_of (boolean (name i)) = 0
level_of (boolean (literal s)) = 0
level_of (boolean (negated a)) = 1
level_of (boolean (binary o a b)) = binary_level o
level_of (boolean (choice c a b)) = 6
level_of (vector (edge e c)) = 1
level_of (vector (join j p q)) = join_level j
level_of (vector (while s p c)) = 3

-- An operand stands in brackets if its level is above those that its place takes.
unfoldable pub bracketed : ℕ → Expression → ℕ → ℕ
bracketed place e depth = if ltb place (level_of e) then 1 + depth else depth

-- Operators of two operands group from the left: the right operand has a stronger level. `? :` groups from the right,
-- with any expression in the middle.
unfoldable pub boolean_depth : Boolean → ℕ
boolean_depth (name i) = 0
boolean_depth (literal s) = 0
boolean_depth (negated a) = bracketed 1 (boolean a) (boolean_depth a)
boolean_depth (binary o a b) =
    max (bracketed (binary_level o) (boolean a) (boolean_depth a))
    (bracketed (binary_level o - 1) (boolean b) (boolean_depth b))
boolean_depth (choice c a b) = max (bracketed 5 (boolean c) (boolean_depth c)) (max (boolean_depth a) (boolean_depth b))

unfoldable pub vector_depth : Vector → ℕ
vector_depth (edge e c) = bracketed 1 (boolean c) (boolean_depth c)
vector_depth (join j p q) =
    max (bracketed (join_level j) (vector p) (vector_depth p)) (bracketed (join_level j - 1) (vector q) (vector_depth q))
vector_depth (while on_right p c) =
    max (bracketed 3 (vector p) (vector_depth p)) (bracketed 2 (boolean c) (boolean_depth c))
vector_depth (while on_left p c) =
    max (bracketed 3 (boolean c) (boolean_depth c)) (bracketed 2 (vector p) (vector_depth p))

unfoldable pub depth_of : Expression → ℕ
depth_of (boolean c) = boolean_depth c
depth_of (vector p) = vector_depth p

-- the level of the operator at a byte
unfoldable pub level_at : ℕ → ℕ
level_at b =
    if ltb b 40 then 0
    else if ltb b 50 then binary_level (binary_at (b - 40))
    else if ltb b 56 then join_level (join_at (b - 50)) else if ltb b 60 then 3 else if ltb b 64 then 6 else 1
