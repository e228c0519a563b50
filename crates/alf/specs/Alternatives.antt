-- Document 01, "Alternatives": rewriting a vector expression, the alternatives' answers, tries and contradictions.
--   Test, Step, Alternative                          an alternative is a list of steps, a step a list of edge tests
--   each, chained, padded, zipped, overlaid, overlapped, conditioned     how alternatives are put together
--   rewritten, alternatives                          those that an operator makes, and those of an expression
--   test_at, step_at, steps_from, on_window, at_row       the answer of a test, a step, an alternative
--   best_of, answer_of                                 the answer of all of them at a row
--   tried, tries                                     how many are tried
--   is_name, halves, first, second, literals_at        the literals asked of a name at a row of the window
--   possible, contradictory   whether some state answers yes to all of them; for no state at some row
--   number_of_alternatives, steps_of, tests, tests_of, over_limit     limit 8, and K
use Rattle.std.specs.Prelude.{ℕ, zero, suc, ◌+◌, ◌-◌, min, Bool, false, not, ◌||◌, List, [], ◌∷◌, ◌++◌, map, eqb, ltb, leb, length, replicate, get_or, if◌then◌else◌}
use Rattle.basics.specs.Words.{greatest_of, least_of, sum_of, some, all}
use Rattle.alf.specs.Expressions.{Boolean, name, literal, negated, binary, choice}
use Rattle.alf.specs.Expressions.{Half, the, Edge, pair, changes, stays, Vector, edge, join, while}
use Rattle.alf.specs.Expressions.{Join, followed_by_join, either_order, with_or_then, any_order, with, or_else}
use Rattle.alf.specs.Windows.{Rank, NO, YES, asked, edge_on, numbered}

-- A step is a list of edge tests; an alternative is a list of steps.
pub data Test : Type 0 where
  test : Edge → Boolean → Test

abbrev pub Step : Type 0
Step = List Test

abbrev pub Alternative : Type 0
Alternative = List Step

-- for each left one, each right one
unfoldable pub each : (Alternative → Alternative → Alternative) → List Alternative → List Alternative
    → List Alternative
each f [] ys = []
each f (x ∷ xs) ys = map (f x) ys ++ each f xs ys

-- `->`: the steps of the left one, then those of the right one
abbrev pub chained : List Alternative → List Alternative → List Alternative
chained = each ◌++◌

-- `&`: empty steps before the shorter; within a step left tests come first
unfoldable pub padded : ℕ → Alternative → Alternative
padded k x = replicate k [] ++ x

unfoldable pub zipped : Alternative → Alternative → Alternative
zipped [] ys = ys
zipped (s ∷ xs) [] = s ∷ xs
zipped (s ∷ xs) (t ∷ ys) = (s ++ t) ∷ zipped xs ys

unfoldable pub overlaid : Alternative → Alternative → Alternative
overlaid x y = zipped (padded (length y - length x) x) (padded (length x - length y) y)

abbrev pub overlapped : List Alternative → List Alternative → List Alternative
overlapped = each overlaid

-- a condition adds `11 c` to each step, last
unfoldable pub conditioned : Boolean → Alternative → Alternative
conditioned c x = map (λ s. s ++ (test (pair (the 1) (the 1)) c ∷ [])) x

-- `|`: left ones, then right ones; the compact operators by their expansion
unfoldable pub rewritten : Join → List Alternative → List Alternative → List Alternative
rewritten followed_by_join xs ys = chained xs ys
rewritten either_order xs ys = chained xs ys ++ chained ys xs
rewritten with_or_then xs ys = overlapped xs ys ++ chained xs ys
rewritten any_order xs ys = (chained xs ys ++ overlapped xs ys) ++ chained ys xs
rewritten with xs ys = overlapped xs ys
rewritten or_else xs ys = xs ++ ys

unfoldable pub alternatives : Vector → List Alternative
alternatives (edge e c) = ((test e c ∷ []) ∷ []) ∷ []
alternatives (join j p q) = rewritten j (alternatives p) (alternatives q)
alternatives (while s p c) = map (conditioned c) (alternatives p)

-- The answer of a test on the event from row a to row a + 1, of a step there, and of an alternative from row a on.
unfoldable pub test_at : (Boolean → ℕ → ℕ) → ℕ → Test → Rank
test_at st a (test e c) = edge_on e (st c a) (st c (a + 1))

unfoldable pub step_at : (Boolean → ℕ → ℕ) → Step → ℕ → Rank
step_at st s a = least_of (test_at st a) s

unfoldable pub steps_from : (Boolean → ℕ → ℕ) → Alternative → ℕ → Rank
steps_from st [] a = YES
steps_from st (s ∷ x) a = min (step_at st s a) (steps_from st x (a + 1))

-- on the rows a to b, where it answers only if it has a step for each event; and at row i, where it ends
unfoldable pub on_window : (Boolean → ℕ → ℕ) → ℕ → ℕ → Alternative → Rank
on_window st a b x = if eqb b (a + length x) then steps_from st x a else NO

unfoldable pub at_row : (Boolean → ℕ → ℕ) → ℕ → Alternative → Rank
at_row st i x = if leb (length x) i then steps_from st x (i - length x) else NO

-- the greatest of a list of alternatives at row i; their answer there, as document 01 numbers it: row 0 has no event
unfoldable pub best_of : (Boolean → ℕ → ℕ) → List Alternative → ℕ → Rank
best_of st xs i = greatest_of (at_row st i) xs

unfoldable pub answer_of : (Boolean → ℕ → ℕ) → List Alternative → ℕ → ℕ
answer_of st xs zero = 3
answer_of st xs (suc i) = numbered (best_of st xs (suc i))

-- The number of alternatives tried: in order up to and including the first yes, or all. At row 0 it is 0.
unfoldable pub tried : List Rank → ℕ
tried [] = 0
tried (r ∷ rs) = if eqb r YES then 1 else 1 + tried rs

unfoldable pub tries : (Boolean → ℕ → ℕ) → List Alternative → ℕ → ℕ
tries st xs zero = 0
tries st xs (suc i) = tried (map (at_row st (suc i)) xs)

-- Contradictory: for some name and row of its window, no state answers yes to all literals asked there of the name
-- itself. `?!` and `?-` aside, a step asks the first halves of its edges at its first row, the second ones at its
-- second.
unfoldable pub is_name : ℕ → Boolean → Bool
is_name n (name i) = eqb i n
is_name n (literal s) = false
is_name n (negated a) = false
is_name n (binary o a b) = false
is_name n (choice c a b) = false

unfoldable pub halves : (Half → Half → Half) → ℕ → Step → List Half
halves which n [] = []
halves which n (test (pair f t) c ∷ s) = (if is_name n c then which f t ∷ [] else []) ++ halves which n s
halves which n (test changes c ∷ s) = halves which n s
halves which n (test stays c ∷ s) = halves which n s

abbrev pub first : ℕ → Step → List Half
first = halves (λ f t. f)

abbrev pub second : ℕ → Step → List Half
second = halves (λ f t. t)

-- those asked of name n at row j of the window: by the step that leads to the row (none to row 0), and by the next
unfoldable pub literals_at : ℕ → Alternative → ℕ → List Half
literals_at n x j = second n (get_or ([] ∷ x) j []) ++ first n (get_or x j [])

unfoldable pub possible : List Half → Bool
possible hs = some 8 (λ s. all (λ h. eqb (asked h s) YES) hs)

unfoldable pub contradictory : ℕ → Alternative → Bool
contradictory names x = some names (λ n. some (length x + 1) (λ j. not (possible (literals_at n x j))))

-- The number of alternatives; K, the steps of the longest; the tests of one alternative, and of the one with most.
unfoldable pub number_of_alternatives : Vector → ℕ
number_of_alternatives p = length (alternatives p)

unfoldable pub steps_of : Vector → ℕ
steps_of p = greatest_of length (alternatives p)

unfoldable pub tests : Alternative → ℕ
tests x = sum_of length x

unfoldable pub tests_of : Vector → ℕ
tests_of p = greatest_of tests (alternatives p)

-- limit 8: over 64 alternatives, 16 steps, or 64 tests in one alternative
unfoldable pub over_limit : List Alternative → Bool
over_limit xs = ltb 64 (length xs) || (ltb 16 (greatest_of length xs) || ltb 64 (greatest_of tests xs))
