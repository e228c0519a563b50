-- Document 02, [9]: which boolean expressions and patterns answer how under the two rules.
--   plain                       an expression with no ternary
--   is_relation, apart           an expression with no ternary below a relation
--   asks_digit, asks_digits, tame     a pattern whose edges ask such an expression for digits and `?` alone
use Rattle.std.specs.Prelude.{ℕ, Bool, true, false, ◌&&◌, ◌||◌, if◌then◌else◌}
use Rattle.alf.specs.Expressions.{Boolean, name, literal, negated, binary, choice}
use Rattle.alf.specs.Expressions.{Binary, and, or, xor, xnor, equals, differs, above, below, is_at_least, is_at_most}
use Rattle.alf.specs.Expressions.{Half, any, the, Edge, pair, changes, stays, Vector, edge, join, while}
use Rattle.alf.specs.Windows.{is_digit}

-- "An expression with no ternary"
unfoldable pub plain : Boolean → Bool
plain (name i) = true
plain (literal l) = true
plain (negated a) = plain a
plain (binary o a b) = plain a && plain b
plain (choice c a b) = false

-- an expression with no ternary below a relation, where the two rules cannot contradict each other
unfoldable pub is_relation : Binary → Bool
is_relation and = false
is_relation or = false
is_relation xor = false
is_relation xnor = false
is_relation equals = true
is_relation differs = true
is_relation above = true
is_relation below = true
is_relation is_at_least = true
is_relation is_at_most = true

unfoldable pub apart : Boolean → Bool
apart (name i) = true
apart (literal l) = true
apart (negated a) = apart a
apart (binary o a b) = if is_relation o then plain a && plain b else apart a && apart b
apart (choice c a b) = apart c && (apart a && apart b)

-- a pattern whose edges ask a ternary for digits and `?` alone, with no ternary below a relation
unfoldable pub asks_digit : Half → Bool
asks_digit any = true
asks_digit (the l) = is_digit l

unfoldable pub asks_digits : Edge → Bool
asks_digits (pair f t) = asks_digit f && asks_digit t
asks_digits changes = false
asks_digits stays = false

unfoldable pub tame : Vector → Bool
tame (edge e c) = plain c || asks_digits e && apart c
tame (join j p q) = tame p && tame q
tame (while s p c) = tame p && apart c
