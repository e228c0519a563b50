-- Document 02, [2]: expressions filled, and expressions on short traces over T's names A, B and C, as written and
-- filled. The choices that document 02 leaves open are in sight here.
--   _then_, _also_               P -> Q; P & Q
--   free, half, weak, high, rises, falls, steady, turns     edges and alternatives that the examples use
--   Filling, fillings, written_of, filled_of     an expression, and what it is when filled
--   Reading, readings, reads, all_read     an expression's answers on a trace, as a test that computes
--   ladder                       01 n0 -> 01 n1 -> ..
use Rattle.std.specs.Prelude.{ℕ, zero, suc, Bool, true, false, ◌&&◌, List, [], ◌∷◌, length}
use Rattle.basics.specs.Words.{listed, same}
use Rattle.alf.specs.declared.Rules.{Rules}
use Rattle.alf.specs.States.{X, H, L}
use Rattle.alf.specs.Expressions.{Boolean, name, negated, binary, and, any, the, Edge, pair, changes, stays}
use Rattle.alf.specs.Expressions.{Vector, edge, join, while, on_right, followed_by_join, either_order, with, or_else}
use Rattle.alf.specs.Values.{state_at}
use Rattle.alf.specs.Windows.{row_answer}
use Rattle.alf.specs.TableT.{names, A, B, C, rise, fall, pulse}
use Rattle.alf.specs.Steady.{meant}
use Rattle.steady_laws.specs.SteadyT.{rules_of}

infixr 30 ◌then◌
abbrev pub ◌then◌ : Vector → Vector → Vector
◌then◌ p q = join followed_by_join p q

infixl 40 ◌also◌
abbrev pub ◌also◌ : Vector → Vector → Vector
◌also◌ p q = join with p q

-- the edges ??, 0?, 'b0'bL, 11
abbrev pub free : Edge
free = pair any any

abbrev pub half : Edge
half = pair (the 0) any

abbrev pub weak : Edge
weak = pair (the 0) (the L)

abbrev pub high : Edge
high = pair (the 1) (the 1)

-- 01 c; 10 c; ?- c; 10 c | 01 c
abbrev pub rises : Boolean → Vector
rises c = edge rise c

abbrev pub falls : Boolean → Vector
falls c = edge fall c

abbrev pub steady : Boolean → Vector
steady c = edge stays c

abbrev pub turns : Boolean → Vector
turns c = join or_else (falls c) (rises c)

-- 01 A & ?- B -> 10 B & ?- A, which is 01 A -> 10 B filled
abbrev pub steady_pulse : Vector
steady_pulse = rises A also steady B then falls B also steady A

infix 20 ◌becomes◌
pub data Filling : Type 0 where
  ◌becomes◌ : Vector → Vector → Filling

unfoldable pub written_of : Filling → Vector
written_of (p becomes q) = p

unfoldable pub filled_of : Filling → Vector
filled_of (p becomes q) = q

unfoldable pub fillings : List Filling
fillings =
    (pulse becomes steady_pulse)
    -- a run is a row of neighbouring steps: `01 A -> 10 B -> ( 10 C | 01 C )`
    ∷ ((pulse then turns C) becomes (steady_pulse then turns C))
    -- whether it is a subtree, `( 10 B | 01 B ) -> 01 C -> 10 B`, or a bracket holds a part of it and more
    ∷ (((turns B then rises C) then falls B) becomes
    ((turns B then rises C also steady B) then falls B also steady C))
    ∷ ((rises A then (falls B then turns C)) becomes (rises A also steady B then (falls B also steady A then turns C)))
    -- a condition in a step makes it none, `01 A -> 10 B & C`; around a run it does not, `( 01 A -> 10 B ) & C`
    ∷ ((rises A then while on_right (falls B) C) becomes (rises A then while on_right (falls B) C))
    ∷ (while on_right pulse C becomes while on_right steady_pulse C)
    -- "Compact operators are not runs"; there may be one below: `( 01 A -> 10 B ) <-> 01 C`
    ∷ (join either_order (rises A) (falls B) becomes join either_order (rises A) (falls B))
    ∷ (join either_order pulse (rises C) becomes join either_order steady_pulse (rises C))
    ∷ (join or_else pulse (rises C) becomes join or_else steady_pulse (rises C))
    -- a step with no changing edge: `0?`, `??` and `11` are none
    ∷ ((edge half A then falls B) becomes (edge half A then falls B))
    ∷ ((rises A then edge free B) becomes (rises A then edge free B))
    ∷ ((rises A then edge high B) becomes (rises A then edge high B))
    -- `'b0'bL` and `?!` are changing edges
    ∷ ((edge weak A then falls B) becomes (edge weak A also steady B then falls B also steady A))
    ∷ ((edge changes A then falls B) becomes (edge changes A also steady B then falls B also steady A))
    -- an edge on a composite, or on `! A`, is on no plain name
    ∷ ((rises (binary and A B) then falls B) becomes (rises (binary and A B) also steady B then falls B))
    ∷ ((rises (binary and A B) then falls A) becomes (rises (binary and A B) also steady A then falls A))
    ∷ ((rises (negated A) then falls B) becomes (rises (negated A) also steady B then falls B))
    -- `01 A & ?? B -> 10 B`: `?? B` frees B at its step
    ∷ ((rises A also edge free B then falls B) becomes (rises A also edge free B then falls B also steady A))
    -- a run of one step: `01 A & 10 B`
    ∷ ((rises A also falls B) becomes (rises A also falls B))
    -- `01 C -> 10 B -> 01 A`: added tests stand behind, by rising name
    ∷ (((rises C then falls B) then rises A) becomes
    ((rises C also steady A also steady B then falls B also steady A also steady C)
    then rises A also steady B also steady C))
    -- two runs joined by `&` are filled each by itself
    ∷ ((pulse also (rises C then falls A)) becomes
    (steady_pulse also (rises C also steady A then falls A also steady C)))
    ∷ []

-- the numbers that an expression answers on a trace of n rows over T's names
abbrev pub numbers_on : Rules → ℕ → List ℕ → Vector → List ℕ
numbers_on ρ n trace p = listed 0 n (row_answer (state_at ρ names trace) (meant ρ p))

-- an expression; the states of a trace, row by row; its numbers there as written, and filled
pub data Reading : Type 0 where
  reading : Vector → List ℕ → List ℕ → List ℕ → Reading

unfoldable pub reads : Bool → Reading → Bool
reads equal (reading p trace plain filled) =
    same (numbers_on (rules_of equal false) (length plain) trace p) plain
    && same (numbers_on (rules_of equal true) (length filled) trace p) filled

unfoldable pub all_read : Bool → List Reading → Bool
all_read equal [] = true
all_read equal (r ∷ rs) = reads equal r && all_read equal rs

unfoldable pub readings : List Reading
readings =
    -- 01 A -> 10 B -> ( 10 C | 01 C ) on 001 111 101 100, in both groupings
    reading ((rises A then falls B) then turns C)
    (0 ∷ 0 ∷ 1 ∷ 1 ∷ 1 ∷ 1 ∷ 1 ∷ 0 ∷ 1 ∷ 1 ∷ 0 ∷ 0 ∷ []) (3 ∷ 0 ∷ 0 ∷ 1 ∷ []) (3 ∷ 0 ∷ 0 ∷ 0 ∷ [])
    ∷ reading (rises A then (falls B then turns C))
    (0 ∷ 0 ∷ 1 ∷ 1 ∷ 1 ∷ 1 ∷ 1 ∷ 0 ∷ 1 ∷ 1 ∷ 0 ∷ 0 ∷ []) (3 ∷ 0 ∷ 0 ∷ 1 ∷ []) (3 ∷ 0 ∷ 0 ∷ 0 ∷ [])
    -- ( 10 B | 01 B ) -> 01 C -> 10 B on 110 100 011 001, in both groupings
    ∷ reading ((turns B then rises C) then falls B)
    (1 ∷ 1 ∷ 0 ∷ 1 ∷ 0 ∷ 0 ∷ 0 ∷ 1 ∷ 1 ∷ 0 ∷ 0 ∷ 1 ∷ []) (3 ∷ 0 ∷ 0 ∷ 1 ∷ []) (3 ∷ 0 ∷ 0 ∷ 0 ∷ [])
    ∷ reading (turns B then (rises C then falls B))
    (1 ∷ 1 ∷ 0 ∷ 1 ∷ 0 ∷ 0 ∷ 0 ∷ 1 ∷ 1 ∷ 0 ∷ 0 ∷ 1 ∷ []) (3 ∷ 0 ∷ 0 ∷ 1 ∷ []) (3 ∷ 0 ∷ 0 ∷ 0 ∷ [])
    -- 01 A -> 10 B & C, and ( 01 A -> 10 B ) & C, on 001 111 101
    ∷ reading (rises A then while on_right (falls B) C)
    (0 ∷ 0 ∷ 1 ∷ 1 ∷ 1 ∷ 1 ∷ 1 ∷ 0 ∷ 1 ∷ []) (3 ∷ 0 ∷ 1 ∷ []) (3 ∷ 0 ∷ 1 ∷ [])
    ∷ reading (while on_right pulse C)
    (0 ∷ 0 ∷ 1 ∷ 1 ∷ 1 ∷ 1 ∷ 1 ∷ 0 ∷ 1 ∷ []) (3 ∷ 0 ∷ 1 ∷ []) (3 ∷ 0 ∷ 0 ∷ [])
    -- ( 01 A -> 10 B ) & ( 01 C -> 10 A ), and 01 A & 01 C -> 10 B & 10 A, on 010 111 001
    ∷ reading (pulse also (rises C then falls A))
    (0 ∷ 1 ∷ 0 ∷ 1 ∷ 1 ∷ 1 ∷ 0 ∷ 0 ∷ 1 ∷ []) (3 ∷ 0 ∷ 1 ∷ []) (3 ∷ 0 ∷ 0 ∷ [])
    ∷ reading (rises A also rises C then falls B also falls A)
    (0 ∷ 1 ∷ 0 ∷ 1 ∷ 1 ∷ 1 ∷ 0 ∷ 0 ∷ 1 ∷ []) (3 ∷ 0 ∷ 1 ∷ []) (3 ∷ 0 ∷ 1 ∷ [])
    -- `?-` compares recorded states: 01 A -> 10 B on 010 1H0 100; 01 A -> ?! B on 0X0 1X0 100
    ∷ reading pulse (0 ∷ 1 ∷ 0 ∷ 1 ∷ H ∷ 0 ∷ 1 ∷ 0 ∷ 0 ∷ []) (3 ∷ 0 ∷ 1 ∷ []) (3 ∷ 0 ∷ 0 ∷ [])
    ∷ reading (rises A then edge changes B)
    (0 ∷ X ∷ 0 ∷ 1 ∷ X ∷ 0 ∷ 1 ∷ 0 ∷ 0 ∷ []) (3 ∷ 0 ∷ 1 ∷ []) (3 ∷ 0 ∷ 1 ∷ [])
    ∷ []

-- one step for each of n + 1 names
unfoldable pub ladder : ℕ → Vector
ladder zero = rises (name zero)
ladder (suc n) = ladder n then rises (name (suc n))
