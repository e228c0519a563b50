-- 000's event report (5.4.1), and two of the sequences of its chapter 5.4.9. 000 states for each the times at which it
-- is true. Document 02, [2], keeps them: "(11b) keeps its times".
--   rows, times_there      the states of A, B, C, D and E row by row, and the rows' times
--   sequence_10a, sequence_11b     01 A -> 10 B; 01 A -> 00 D -> 11 E
--   times_of               the times of the rows that answer yes, under some rules
use Rattle.std.specs.Prelude.{ℕ, List, [], ◌∷◌, eqb, length, if◌then◌else◌}
use Rattle.basics.specs.Words.{listed}
use Rattle.alf.specs.declared.Rules.{Rules}
use Rattle.alf.specs.States.{X}
use Rattle.alf.specs.Expressions.{name, the, pair, Vector, edge, join, followed_by_join}
use Rattle.alf.specs.Values.{state_at}
use Rattle.alf.specs.Windows.{row_answer}
use Rattle.alf.specs.Steady.{meant}

unfoldable pub rows : List ℕ
rows =
    0 ∷ 1 ∷ 1 ∷ X ∷ 1
    ∷ 1 ∷ 1 ∷ 1 ∷ 0 ∷ 1
    ∷ 1 ∷ 0 ∷ 1 ∷ 0 ∷ 1
    ∷ 1 ∷ 0 ∷ 0 ∷ 0 ∷ 1
    ∷ 0 ∷ 0 ∷ 0 ∷ 0 ∷ 1
    ∷ 1 ∷ 0 ∷ 0 ∷ 0 ∷ 1
    ∷ 0 ∷ 1 ∷ 1 ∷ 0 ∷ 1
    ∷ 1 ∷ 1 ∷ 1 ∷ 0 ∷ 1
    ∷ 1 ∷ 1 ∷ 1 ∷ 0 ∷ 0
    ∷ 1 ∷ 0 ∷ 0 ∷ 0 ∷ 0
    ∷ 0 ∷ 0 ∷ 0 ∷ 1 ∷ 0
    ∷ []

unfoldable pub times_there : List ℕ
times_there = 0 ∷ 109 ∷ 258 ∷ 573 ∷ 586 ∷ 643 ∷ 788 ∷ 915 ∷ 1062 ∷ 1395 ∷ 1640 ∷ []

-- an edge between two digits on the name of a number
abbrev on_name : ℕ → ℕ → ℕ → Vector
on_name from to i = edge (pair (the from) (the to)) (name i)

unfoldable pub sequence_10a : Vector
sequence_10a = join followed_by_join (on_name 0 1 0) (on_name 1 0 1)

unfoldable pub sequence_11b : Vector
sequence_11b = join followed_by_join (join followed_by_join (on_name 0 1 0) (on_name 0 0 3)) (on_name 1 1 4)

-- the times whose numbers beside them are 1, yes
unfoldable pub yes_times : List ℕ → List ℕ → List ℕ
yes_times [] ns = []
yes_times (t ∷ ts) [] = []
yes_times (t ∷ ts) (n ∷ ns) = if eqb n 1 then t ∷ yes_times ts ns else yes_times ts ns

abbrev pub times_of : Rules → Vector → List ℕ
times_of ρ p = yes_times times_there (listed 0 (length times_there) (row_answer (state_at ρ 5 rows) (meant ρ p)))
