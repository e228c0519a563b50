-- Document 02, [2]: an expression with no run of two or more steps.
--   spaced                       no two neighbours of some operands are both steps
--   lone                         so in each chain of the expression
use Rattle.std.specs.Prelude.{Bool, true, not, ◌&&◌, List, [], ◌∷◌}
use Rattle.alf.specs.Expressions.{Vector, edge, join, while}
use Rattle.alf.specs.Steady.{is_step_lem, operands}

unfoldable pub spaced : List Vector → Bool
spaced [] = true
spaced (p ∷ []) = true
spaced (p ∷ q ∷ ps) = not (is_step_lem p && is_step_lem q) && spaced (q ∷ ps)

unfoldable pub lone : Vector → Bool
lone (edge e c) = true
lone (join j p q) = spaced (operands (join j p q)) && (lone p && lone q)
lone (while s p c) = lone p
