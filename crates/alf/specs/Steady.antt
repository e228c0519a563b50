-- Document 02, [2], "Steady pins between events": the expression with its steady pins filled in.
--   is_then, is_with, is_step_lem       `->`; `&`; edges or edges joined by `&`
--   is_changing, moves            an edge that changes; a step with such an edge
--   has_edge_on, some_of            a step with an edge on a plain name; whether some entry of a list passes
--   operands, row, run           the operands of a chain of `->`; the longest run that a step stands in
--   is_steady, kept, steadied     the names that get `?-` at a step; a step with these tests
--   filled_in, filled, meant      a part of a chain, filled; the expression, filled; what an expression is read as
use Rattle.std.specs.Prelude.{ℕ, zero, suc, Bool, true, false, not, ◌&&◌, ◌||◌, eqb, if◌then◌else◌}
use mathlib.Core.List.{List, [], ◌∷◌, ◌++◌, reverse_aux}
use Rattle.basics.specs.Words.{all}
use Rattle.alf.specs.declared.Rules.{Rules}
use Rattle.alf.specs.Expressions.{name, any, the, Edge, pair, changes, stays, Vector, edge, join, while}
use Rattle.alf.specs.Expressions.{Join, followed_by_join, either_order, with_or_then, any_order, with, or_else}
use Rattle.alf.specs.Alternatives.{is_name}

-- `->`; `&`. "Compact operators are not runs."
unfoldable pub is_then : Join → Bool
is_then followed_by_join = true
is_then either_order = false
is_then with_or_then = false
is_then any_order = false
is_then with = false
is_then or_else = false

unfoldable pub is_with : Join → Bool
is_with followed_by_join = false
is_with either_order = false
is_with with_or_then = false
is_with any_order = false
is_with with = true
is_with or_else = false

-- "edges or edges joined by `&`": such an operand of `->` is a step
unfoldable pub is_step_lem : Vector → Bool
is_step_lem (edge e c) = true
is_step_lem (join j p q) = is_with j && (is_step_lem p && is_step_lem q)
is_step_lem (while s p c) = false

-- "a changing edge (two different states, or `?!`)"
unfoldable pub is_changing : Edge → Bool
is_changing (pair any t) = false
is_changing (pair (the f) any) = false
is_changing (pair (the f) (the t)) = not (eqb f t)
is_changing changes = true
is_changing stays = false

-- whether a step holds a changing edge
unfoldable pub moves : Vector → Bool
moves (edge e c) = is_changing e
moves (join j p q) = moves p || moves q
moves (while s p c) = moves p

-- whether a step holds an edge on name n alone
unfoldable pub has_edge_on : ℕ → Vector → Bool
has_edge_on n (edge e c) = is_name n c
has_edge_on n (join j p q) = has_edge_on n p || has_edge_on n q
has_edge_on n (while s p c) = has_edge_on n p

-- whether some entry of a list passes
unfoldable pub some_of : {A : Type 0} → (A → Bool) → List A → Bool
some_of p [] = false
some_of p (x ∷ xs) = p x || some_of p xs

-- the operands of a chain of `->`, in the order written; "brackets around parts of it ignored"
unfoldable pub operands : Vector → List Vector
operands (edge e c) = edge e c ∷ []
operands (join j p q) = if is_then j then operands p ++ operands q else join j p q ∷ []
operands (while s p c) = while s p c ∷ []

-- the longest row of steps that a list of operands begins with
unfoldable pub row : List Vector → List Vector
row [] = []
row (p ∷ ps) = if is_step_lem p then p ∷ row ps else []

-- "each longest written run": the one of step p, from the operands of its chain before it, nearest first, and those
-- after it
unfoldable pub run : List Vector → Vector → List Vector → List Vector
run before p after = row before ++ (p ∷ row after)

-- "each plain name with an edge somewhere in the run gets `?-` at the steps with no edge on it alone"
unfoldable pub is_steady : List Vector → Vector → ℕ → Bool
is_steady steps p n = some_of (has_edge_on n) steps && not (has_edge_on n p)

-- p & ?- n, for each name n below a number that passes the test, rising
unfoldable pub kept : ℕ → (ℕ → Bool) → Vector → Vector
kept zero f p = p
kept (suc n) f p = if f n then join with (kept n f p) (edge stays (name n)) else kept n f p

-- "If every step holds a changing edge"; there are at most 32 names
unfoldable pub steadied : List Vector → Vector → Vector
steadied steps p = if all moves steps then kept 32 (is_steady steps p) p else p

-- the operand p of a chain, or the part p of a chain, with the chain's operands before it, nearest first, and after it
unfoldable pub filled_in : List Vector → List Vector → Vector → Vector
filled_in before after (edge e c) = steadied (run before (edge e c) after) (edge e c)
filled_in before after (join j p q) =
    if is_then j
    then join j (filled_in before (operands q ++ after) p) (filled_in (reverse_aux (operands p) before) after q)
    else if is_step_lem (join j p q) then steadied (run before (join j p q) after) (join j p q)
    else join j (filled_in [] [] p) (filled_in [] [] q)
filled_in before after (while s p c) = while s (filled_in [] [] p) c

-- "the expression so filled"
abbrev pub filled : Vector → Vector
filled = filled_in [] []

-- what a vector expression is read as: filled where the rules say so
unfoldable pub meant : Rules → Vector → Vector
meant ρ p = if ρ.steady_pins then filled p else p
