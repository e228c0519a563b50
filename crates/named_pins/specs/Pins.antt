-- Document 02, [11], "Partners' pins blanked": the pins that an expression names, as it is written.
--   names, names_in, named     whether a boolean expression, a vector expression, either names a pin
--   names_of                   whether a test of some alternatives does
use Rattle.std.specs.Prelude.{ℕ, Bool, false, ◌||◌, List, [], ◌∷◌, eqb}
use Rattle.alf.specs.Expressions.{Boolean, name, literal, negated, binary, choice, Vector, edge, join, while}
use Rattle.alf.specs.Expressions.{Expression, boolean, vector}
use Rattle.alf.specs.Alternatives.{test, Step, Alternative}

unfoldable pub names : Boolean → ℕ → Bool
names (name i) n = eqb i n
names (literal s) n = false
names (negated a) n = names a n
names (binary o a b) n = names a n || names b n
names (choice c a b) n = names c n || (names a n || names b n)

unfoldable pub names_in : Vector → ℕ → Bool
names_in (edge e c) n = names c n
names_in (join j p q) n = names_in p n || names_in q n
names_in (while s p c) n = names_in p n || names c n

unfoldable pub named : Expression → ℕ → Bool
named (boolean c) n = names c n
named (vector p) n = names_in p n

unfoldable pub names_in_step : Step → ℕ → Bool
names_in_step [] n = false
names_in_step (test e c ∷ s) n = names c n || names_in_step s n

unfoldable pub names_in_one : Alternative → ℕ → Bool
names_in_one [] n = false
names_in_one (s ∷ x) n = names_in_step s n || names_in_one x n

unfoldable pub names_of : List Alternative → ℕ → Bool
names_of [] n = false
names_of (x ∷ xs) n = names_in_one x n || names_of xs n
