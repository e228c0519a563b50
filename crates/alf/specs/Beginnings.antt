-- Document 02, [12], "Where the match began": "the time of the first row of the window of the first alternative in
-- order that answers yes".
--   began_in, began       among some alternatives, at a row above 0; at a row
--   is_given, time_of_lem      as lists have it: a flag, 1 where a time is given, and the time; 0 and 0 where none is
use Rattle.std.specs.Prelude.{None, Option, Some}
use Rattle.alf.specs.declared.Stamp.{Stamp}
use Rattle.std.specs.Prelude.{ℕ, zero, suc, ◌-◌, List, [], ◌∷◌, eqb, length, get_or, if◌then◌else◌}
use Rattle.alf.specs.Expressions.{Boolean}
use Rattle.alf.specs.Windows.{YES}
use Rattle.alf.specs.Alternatives.{Alternative, at_row}

-- where a match began (document 02, [12]): a time, or none is given
abbrev pub Began : Type 0
Began = Option Stamp

-- an alternative of k steps that ends at row i has a window that begins at row i - k
unfoldable pub began_in : (Boolean → ℕ → ℕ) → List ℕ → List Alternative → ℕ → Began
began_in st times [] i = None
began_in st times (x ∷ xs) i =
    if eqb (at_row st i x) YES then Some (record { 0 = get_or times (i - length x) 0 }) else began_in st times xs i

-- "No time is given with no, unknown or row 0"
unfoldable pub began : (Boolean → ℕ → ℕ) → List ℕ → List Alternative → ℕ → Began
began st times xs zero = None
began st times xs (suc i) = began_in st times xs (suc i)

unfoldable pub is_given : Began → ℕ
is_given (Some t) = 1
is_given None = 0

unfoldable pub time_of_lem : Began → ℕ
time_of_lem (Some t) = t.0
time_of_lem None = 0
