-- Document 01, "States and values": the eight states, their reduced values, the operators and the relations on them.
-- A state is its code: 0 and 1 are themselves, and a letter is the name of its code. A value is 0, 1 or X.
--   X, H, L, W, Z, U                     the codes of the letters
--   reduce, rank, ranked                 reducing; the order 0 < X < 1
--   not_of_lem, and_of, or_of, xor_of, xnor_of    the operators on reduced values
--   Answers, gives, Right, Cell, Line, table     the relation table as document 01 lays it out
--   among, matches, in_cells, in_lines, relations  looking it up
--   at_least, at_most                      >= and <=
use Rattle.std.specs.Prelude.{ℕ, min, max, Bool, true, false, ◌||◌, List, [], ◌∷◌, eqb, get_or, if◌then◌else◌}

-- Eight states with codes 0 to 7: 0 1 X H L W Z U
abbrev pub X : ℕ
X = 2

abbrev pub H : ℕ
H = 3

abbrev pub L : ℕ
L = 4

abbrev pub W : ℕ
W = 5

abbrev pub Z : ℕ
Z = 6

abbrev pub U : ℕ
U = 7

-- Reducing: H to 1, L to 0, W Z U to X. In the order of the codes, 0 1 X H L W Z U:
unfoldable pub reduce : ℕ → ℕ
reduce s = get_or (0 ∷ 1 ∷ X ∷ 1 ∷ 0 ∷ X ∷ X ∷ X ∷ []) s X

-- 0 < X < 1: where a value, one of 0 1 X, stands in this order, and the value that stands there
unfoldable pub rank : ℕ → ℕ
rank v = get_or (0 ∷ 2 ∷ 1 ∷ []) v 1

unfoldable pub ranked : ℕ → ℕ
ranked r = get_or (0 ∷ X ∷ 1 ∷ []) r X

-- `!` swaps 0 and 1 and keeps X. Of 0 1 X:
unfoldable pub not_of_lem : ℕ → ℕ
not_of_lem x = get_or (1 ∷ 0 ∷ X ∷ []) (reduce x) X

-- `&` is the smaller, `|` the larger
unfoldable pub and_of : ℕ → ℕ → ℕ
and_of x y = ranked (min (rank (reduce x)) (rank (reduce y)))

unfoldable pub or_of : ℕ → ℕ → ℕ
or_of x y = ranked (max (rank (reduce x)) (rank (reduce y)))

-- `^` and `~^` give X if an operand is X
unfoldable pub xor_of : ℕ → ℕ → ℕ
xor_of x y = if eqb (reduce x) X || eqb (reduce y) X then X else if eqb (reduce x) (reduce y) then 0 else 1

unfoldable pub xnor_of : ℕ → ℕ → ℕ
xnor_of x y = if eqb (reduce x) X || eqb (reduce y) X then X else if eqb (reduce x) (reduce y) then 1 else 0

-- The relations, laid out as document 01's table: for states on the left and on the right, the answers to == != > <
pub record Answers : Type 0 where
  pub equal : ℕ
  pub unequal : ℕ
  pub greater : ℕ
  pub less : ℕ

abbrev pub gives : ℕ → ℕ → ℕ → ℕ → Answers
gives e u g l = record { equal = e; unequal = u; greater = g; less = l }

-- what stands on the right: some of these states, the state on the left itself, or any other
pub data Right : Type 0 where
  one_of : List ℕ → Right
  itself : Right
  any_other : Right

pub data Cell : Type 0 where
  right : Right → Answers → Cell

pub data Line : Type 0 where
  left : List ℕ → List Cell → Line

unfoldable pub table : List Line
table =
    left (1 ∷ [])
    (right (one_of (1 ∷ [])) (gives 1 0 0 0)
    ∷ right (one_of (H ∷ [])) (gives 0 1 X X)
    ∷ right (one_of (0 ∷ L ∷ [])) (gives 0 1 1 0)
    ∷ right (one_of (W ∷ U ∷ Z ∷ X ∷ [])) (gives 0 1 X 0)
    ∷ [])
    ∷ left (H ∷ [])
    (right (one_of (H ∷ [])) (gives 1 0 0 0)
    ∷ right (one_of (1 ∷ [])) (gives 0 1 X X)
    ∷ right (one_of (0 ∷ L ∷ [])) (gives 0 1 1 0)
    ∷ right (one_of (W ∷ U ∷ Z ∷ X ∷ [])) (gives 0 1 X 0)
    ∷ [])
    ∷ left (0 ∷ [])
    (right (one_of (0 ∷ [])) (gives 1 0 0 0)
    ∷ right (one_of (L ∷ [])) (gives 0 1 X X)
    ∷ right (one_of (1 ∷ H ∷ [])) (gives 0 1 0 1)
    ∷ right (one_of (W ∷ U ∷ Z ∷ X ∷ [])) (gives 0 1 0 X)
    ∷ [])
    ∷ left (L ∷ [])
    (right (one_of (L ∷ [])) (gives 1 0 0 0)
    ∷ right (one_of (0 ∷ [])) (gives 0 1 X X)
    ∷ right (one_of (1 ∷ H ∷ [])) (gives 0 1 0 1)
    ∷ right (one_of (W ∷ U ∷ Z ∷ X ∷ [])) (gives 0 1 0 X)
    ∷ [])
    ∷ left (X ∷ W ∷ Z ∷ [])
    (right itself (gives 1 0 X X)
    ∷ right (one_of (U ∷ [])) (gives X X X X)
    ∷ right any_other (gives 0 1 X X)
    ∷ [])
    ∷ left (U ∷ []) (right any_other (gives X X X X) ∷ [])
    ∷ []

-- the answers for x on the left and y on the right: the first line and the first cell that name them
unfoldable pub among : ℕ → List ℕ → Bool
among x [] = false
among x (s ∷ ss) = eqb x s || among x ss

unfoldable pub matches : Right → ℕ → ℕ → Bool
matches (one_of ss) x y = among y ss
matches itself x y = eqb x y
matches any_other x y = true

unfoldable pub in_cells : List Cell → ℕ → ℕ → Answers
in_cells [] x y = gives X X X X
in_cells (right r a ∷ cs) x y = if matches r x y then a else in_cells cs x y

unfoldable pub in_lines : List Line → ℕ → ℕ → Answers
in_lines [] x y = gives X X X X
in_lines (left ss cs ∷ ls) x y = if among x ss then in_cells cs x y else in_lines ls x y

unfoldable pub relations : ℕ → ℕ → Answers
unfolding table in_lines in_cells matches among
relations x y = in_lines table x y

-- `a >= b` is `(a > b) | (a == b)`; `<=` likewise
unfoldable pub at_least : ℕ → ℕ → ℕ
at_least x y = or_of (relations x y).greater (relations x y).equal

unfoldable pub at_most : ℕ → ℕ → ℕ
at_most x y = or_of (relations x y).less (relations x y).equal
