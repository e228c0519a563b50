-- Document 01, "Table T and its answers": the trace, and the cases 1 to 12 as a table.
--   names, rows, slots, A, B, C, times, states   the trace T
--   rise, fall, settle, pulse            edges and the pattern that cases use
--   Case, cases                          the table of cases 1 to 12, from the document's texts
--   numbers, entries, holds, all_hold     that the expression of a case has these answers, as a test that computes
-- That the texts are these expressions is said where texts are read (Gives).
use Rattle.std.specs.Prelude.{ℕ, ◌+◌, ◌-◌, Bool, true, ◌&&◌, List, [], ◌∷◌, ◌++◌}
use Rattle.basics.specs.Words.{listed, same}
use Rattle.basics.specs.Text.{bytes}
use Rattle.alf.specs.declared.Rules.{Rules}
use Rattle.alf.specs.States.{X, H, Z}
use Rattle.alf.specs.Expressions.{Boolean, name, literal, binary, choice, and, or, equals}
use Rattle.alf.specs.Expressions.{the, Edge, pair, changes}
use Rattle.alf.specs.Expressions.{Vector, edge, join, while, on_right, followed_by_join, any_order, with}
use Rattle.alf.specs.Values.{state_at, value_at}
use Rattle.alf.specs.Windows.{row_answer}
use Rattle.alf.specs.Alternatives.{steps_of}
use Rattle.alf.specs.Names.{slot_of}
use Rattle.alf.specs.Traces.{corrected, last_rewritten}

-- Names A B C; times 0, 10, 20, 35, 40, 55; rows 011 111 10X X01 1Z1 10H
abbrev pub names : ℕ
names = 3

abbrev pub rows : ℕ
rows = 6

-- the names, in their slots
unfoldable pub slots : List ℕ
slots = slot_of (bytes "A") ++ (slot_of (bytes "B") ++ slot_of (bytes "C"))

abbrev pub A : Boolean
A = name 0

abbrev pub B : Boolean
B = name 1

abbrev pub C : Boolean
C = name 2

unfoldable pub times : List ℕ
times = 0 ∷ 10 ∷ 20 ∷ 35 ∷ 40 ∷ 55 ∷ []

unfoldable pub states : List ℕ
states =
    (0 ∷ 1 ∷ 1 ∷ [])
    ++ ((1 ∷ 1 ∷ 1 ∷ [])
    ++ ((1 ∷ 0 ∷ X ∷ [])
    ++ ((X ∷ 0 ∷ 1 ∷ [])
    ++ ((1 ∷ Z ∷ 1 ∷ [])
    ++ (1 ∷ 0 ∷ H ∷ [])))))

-- the edges 01, 10 and 'bX'b1
abbrev pub rise : Edge
rise = pair (the 0) (the 1)

abbrev pub fall : Edge
fall = pair (the 1) (the 0)

abbrev pub settle : Edge
settle = pair (the X) (the 1)

-- a text, the expression that it is, and its answers at rows 0 to 5; its values; a row to correct, that row's new
-- states, the answers then, and the entries rewritten
pub data Case : Type 0 where
  answers : List ℕ → Vector → List ℕ → Case
  values : List ℕ → Boolean → List ℕ → Case
  correction : List ℕ → Vector → ℕ → List ℕ → List ℕ → List ℕ → Case

-- 01 A -> 10 B
abbrev pub pulse : Vector
pulse = join followed_by_join (edge rise A) (edge fall B)

unfoldable pub cases : List Case
cases =
    -- 1
    answers (bytes "01 A") (edge rise A) (3 ∷ 1 ∷ 0 ∷ 0 ∷ 2 ∷ 0 ∷ [])
    -- 2
    ∷ answers (bytes "01 A -> 10 B") pulse (3 ∷ 0 ∷ 1 ∷ 0 ∷ 0 ∷ 2 ∷ [])
    -- 3
    ∷ answers (bytes "( 01 A -> 10 B ) & C") (while on_right pulse C) (3 ∷ 0 ∷ 2 ∷ 0 ∷ 0 ∷ 2 ∷ [])
    -- 4
    ∷ answers (bytes "01 ( A & B )") (edge rise (binary and A B)) (3 ∷ 1 ∷ 0 ∷ 0 ∷ 2 ∷ 0 ∷ [])
    -- 5
    ∷ answers (bytes "'bX'b1 A") (edge settle A) (3 ∷ 0 ∷ 0 ∷ 0 ∷ 1 ∷ 0 ∷ [])
    -- 6
    ∷ answers (bytes "?! B") (edge changes B) (3 ∷ 0 ∷ 1 ∷ 0 ∷ 1 ∷ 1 ∷ [])
    -- 7
    ∷ answers (bytes "01 A <&> 10 B") (join any_order (edge rise A) (edge fall B)) (3 ∷ 0 ∷ 1 ∷ 0 ∷ 0 ∷ 2 ∷ [])
    -- 8
    ∷ values (bytes "A ? C : 'bZ") (choice A C (literal Z)) (Z ∷ 1 ∷ X ∷ X ∷ 1 ∷ 1 ∷ [])
    -- 9
    ∷ values (bytes "C == 'bH") (binary equals C (literal H)) (0 ∷ 0 ∷ 0 ∷ 0 ∷ 0 ∷ 1 ∷ [])
    -- 10
    ∷ values (bytes "A | B") (binary or A B) (1 ∷ 1 ∷ 1 ∷ X ∷ 1 ∷ 1 ∷ [])
    -- 11
    ∷ answers (bytes "10 C & ( 01 A -> 10 B )") (join with (edge fall C) pulse) (3 ∷ 0 ∷ 2 ∷ 0 ∷ 0 ∷ 0 ∷ [])
    -- 12: case 1, row 3 corrected to 001; entries 3 and 4 rewritten
    ∷ correction (bytes "01 A") (edge rise A) 3 (0 ∷ 0 ∷ 1 ∷ []) (3 ∷ 1 ∷ 0 ∷ 0 ∷ 1 ∷ 0 ∷ []) (3 ∷ 4 ∷ [])
    ∷ []

-- the numbers that a vector expression answers on a trace of six rows, and the entries that a correction rewrites
abbrev pub numbers : Rules → List ℕ → Vector → List ℕ
numbers ρ trace p = listed 0 rows (row_answer (state_at ρ names trace) p)

abbrev pub entries : Vector → ℕ → List ℕ
entries p r = listed r (last_rewritten (steps_of p) rows r + 1 - r) (λ i. i)

unfoldable pub holds : Rules → Case → Bool
holds ρ (answers text p ns) = same (numbers ρ states p) ns
holds ρ (values text c vs) = same (listed 0 rows (value_at ρ names states c)) vs
holds ρ (correction text p r new ns es) = same (numbers ρ (corrected names states r new) p) ns && same (entries p r) es

unfoldable pub all_hold : Rules → List Case → Bool
all_hold ρ [] = true
all_hold ρ (c ∷ cs) = holds ρ c && all_hold ρ cs
