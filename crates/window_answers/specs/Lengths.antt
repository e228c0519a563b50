-- How many events the longest window has on which a vector expression can answer other than no.
--   joined_length   of two vectors under an operator: one behind the other, or both that end together
--   longest        of an expression; that a window of more events answers no is a law
use Rattle.std.specs.Prelude.{ℕ, ◌+◌, max}
use Rattle.alf.specs.Expressions.{Vector, edge, join, while}
use Rattle.alf.specs.Expressions.{Join, followed_by_join, either_order, with_or_then, any_order, with, or_else}

unfoldable pub joined_length : Join → ℕ → ℕ → ℕ
joined_length followed_by_join n m = n + m
joined_length either_order n m = n + m
joined_length with_or_then n m = n + m
joined_length any_order n m = n + m
joined_length with n m = max n m
joined_length or_else n m = max n m

unfoldable pub longest : Vector → ℕ
longest (edge e c) = 1
longest (join j p q) = joined_length j (longest p) (longest q)
longest (while s p c) = longest p
