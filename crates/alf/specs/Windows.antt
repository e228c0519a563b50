-- Document 01, "What a pattern says": the answer of a vector expression on the rows from a to b, and at a row.
-- `st` is the state of each boolean expression at each row; all that follows depends on a trace by it alone.
--   Rank, NO, UNKNOWN, YES                           answers in their order
--   is_digit, digit_asked, letter_asked, asked, edge_on  a literal asked of a state, an edge of two states
--   Window                                           what answers on windows
--   followed_by, either, together, joined             the operators of two vectors
--   certainty, held                                  a condition at every row
--   answer, best      the answer on a window, the greatest of those that end at a row
--   numbered, row_answer                              document 01's number of an answer; a row's answer, as its number
use Rattle.std.specs.Prelude.{ℕ, zero, suc, ◌+◌, ◌-◌, min, max, Bool, [], ◌∷◌, eqb, ltb, get_or, if◌then◌else◌}
use Rattle.basics.specs.Words.{greatest, least}
use Rattle.alf.specs.States.{X, reduce}
use Rattle.alf.specs.Expressions.{Boolean, Half, any, the, Edge, pair, changes, stays}
use Rattle.alf.specs.Expressions.{Vector, edge, join, while}
use Rattle.alf.specs.Expressions.{Join, followed_by_join, either_order, with_or_then, any_order, with, or_else}

-- Answers are ordered no < unknown < yes. A rank is the place of an answer in this order, so that the lesser is `min`
-- and the greater `max`; it is written as a word. It is not document 01's number of the answer: see `numbered`.
abbrev pub Rank : Type 0
Rank = ℕ

abbrev pub NO : Rank
NO = 0

abbrev pub UNKNOWN : Rank
UNKNOWN = 1

abbrev pub YES : Rank
YES = 2

-- A literal asked of a state: `?` is yes. A digit is yes if the state reduces to it, unknown if it reduces to X, else
-- no. A letter is yes for that very state, else no.
abbrev pub is_digit : ℕ → Bool
is_digit l = ltb l 2

unfoldable pub digit_asked : ℕ → ℕ → Rank
digit_asked l s = if eqb (reduce s) l then YES else if eqb (reduce s) X then UNKNOWN else NO

unfoldable pub letter_asked : ℕ → ℕ → Rank
letter_asked l s = if eqb s l then YES else NO

unfoldable pub asked : Half → ℕ → Rank
asked any s = YES
asked (the l) s = if is_digit l then digit_asked l s else letter_asked l s

-- an edge on the states before and after: the lesser of its two literals' answers; `?!` is yes if the states differ,
-- else no; `?-` the reverse
unfoldable pub edge_on : Edge → ℕ → ℕ → Rank
edge_on (pair f t) x y = min (asked f x) (asked t y)
edge_on changes x y = if eqb x y then NO else YES
edge_on stays x y = if eqb x y then YES else NO

-- What answers on windows: a function of the first and the last row.
abbrev pub Window : Type 0
Window = ℕ → ℕ → Rank

-- P -> Q: the greatest, over m with a < m < b, of the lesser of P on a to m and Q on m to b. Here m is a + 1 + i.
unfoldable pub followed_by : Window → Window → Window
followed_by P Q a b = greatest (b - (a + 1)) (λ i. min (P a (a + 1 + i)) (Q (a + 1 + i) b))

-- P | Q: the greater
unfoldable pub either : Window → Window → Window
either P Q a b = max (P a b) (Q a b)

-- P & Q: both end at b, the longer starts at a, the shorter at a or later; the greatest of the lesser. Here the
-- shorter starts at a + i.
unfoldable pub together : Window → Window → Window
together P Q a b = greatest (b + 1 - a) (λ i. max (min (P a b) (Q (a + i) b)) (min (P (a + i) b) (Q a b)))

-- P & c: the lesser of P and of c's reduced value at every row from a to b (1 yes, X unknown, 0 no)
unfoldable pub certainty : ℕ → Rank
certainty s = get_or (NO ∷ YES ∷ UNKNOWN ∷ []) (reduce s) NO

unfoldable pub held : (ℕ → ℕ) → Window
held c a b = least (b + 1 - a) (λ i. certainty (c (a + i)))

-- P <-> Q is P -> Q | Q -> P; P &> Q is P & Q | P -> Q; P <&> Q is P -> Q | P & Q | Q -> P
unfoldable pub joined : Join → Window → Window → Window
joined followed_by_join P Q = followed_by P Q
joined either_order P Q = either (followed_by P Q) (followed_by Q P)
joined with_or_then P Q = either (together P Q) (followed_by P Q)
joined any_order P Q = either (either (followed_by P Q) (together P Q)) (followed_by Q P)
joined with P Q = together P Q
joined or_else P Q = either P Q

-- The answer on a window. An edge: no unless b = a+1.
unfoldable pub answer : (Boolean → ℕ → ℕ) → Vector → Window
answer st (edge e c) a b = if eqb b (a + 1) then edge_on e (st c a) (st c b) else NO
answer st (join j p q) a b = joined j (answer st p) (answer st q) a b
answer st (while s p c) a b = min (answer st p a b) (held (st c) a b)

-- Row i's answer is the greatest over all windows that end at i.
unfoldable pub best : (Boolean → ℕ → ℕ) → Vector → ℕ → Rank
best st p i = greatest (i + 1) (λ a. answer st p a i)

-- Document 01's numbers: 0 no, 1 yes, 2 unknown. By rank, from NO over UNKNOWN to YES:
unfoldable pub numbered : Rank → ℕ
numbered zero = 0
numbered (suc zero) = 2
numbered (suc (suc r)) = 1

-- Row 0 has 3, no event.
unfoldable pub row_answer : (Boolean → ℕ → ℕ) → Vector → ℕ → ℕ
row_answer st p zero = 3
row_answer st p (suc i) = numbered (best st p (suc i))
