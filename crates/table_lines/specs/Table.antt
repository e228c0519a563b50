-- The table: a heading, a line for each pattern with the times it is seen, its share of all events, the rows that
-- answer unknown and no, and the pattern last; and a line with the totals. Columns stand between tabs, and every line
-- ends in LF.
--   plain, ended                         a pattern as it is shown; columns, a pattern, the line's end
--   columns, refused_columns, total_columns
--   heading_line, pattern_line, refused_line, total_line
-- The share's rule stands in figures, Share.antt.
use Rattle.std.specs.Prelude.{ℕ, List, [], ◌∷◌, map, ltb, if◌then◌else◌}
use Rattle.basics.specs.Text.{bytes, joined}
use Rattle.figures.specs.Numbers.{decimal}
use Rattle.figures.specs.Share.{share}

-- a byte of a pattern as a line shows it: a tab, a line end or any other below 32 is a space, so that a line stays one
unfoldable pub plain : ℕ → ℕ
plain b = if ltb b 32 then 32 else b

-- columns, a pattern, and the line's end
unfoldable pub ended : List ℕ → List ℕ → List ℕ
ended columns pattern = joined (columns ∷ map plain pattern ∷ bytes "\n" ∷ [])

unfoldable pub heading : List ℕ
heading = bytes "seen\tshare\tunknown\tno\tpattern"

unfoldable pub heading_line : List ℕ
heading_line = ended heading []

-- of a pattern on a trace of n rows
unfoldable pub columns : ℕ → ℕ → ℕ → ℕ → List ℕ
columns yeses unknowns noes n =
    joined
    (decimal yeses ∷ bytes "\t" ∷ share yeses n ∷ bytes "\t" ∷ decimal unknowns ∷ bytes "\t" ∷ decimal noes
    ∷ bytes "\t" ∷ [])

unfoldable pub pattern_line : List ℕ → ℕ → ℕ → ℕ → ℕ → List ℕ
pattern_line pattern yeses unknowns noes n = ended (columns yeses unknowns noes n) pattern

-- of a pattern that is refused
unfoldable pub refused_columns : ℕ → ℕ → List ℕ
refused_columns number place =
    joined (bytes "refused " ∷ decimal number ∷ bytes " at " ∷ decimal place ∷ bytes "\t-\t-\t-\t" ∷ [])

unfoldable pub refused_line : List ℕ → ℕ → ℕ → List ℕ
refused_line pattern number place = ended (refused_columns number place) pattern

-- of all patterns that are not refused, on a trace of so many events: sums of their columns; shares are not summed,
-- since patterns may see the same event
unfoldable pub total_columns : ℕ → ℕ → ℕ → ℕ → ℕ → List ℕ
total_columns yeses unknowns noes patterns events =
    joined
    (decimal yeses ∷ bytes "\t-\t" ∷ decimal unknowns ∷ bytes "\t" ∷ decimal noes ∷ bytes "\ttotal patterns "
    ∷ decimal patterns ∷ bytes " events " ∷ decimal events ∷ [])

unfoldable pub total_line : ℕ → ℕ → ℕ → ℕ → ℕ → List ℕ
total_line yeses unknowns noes patterns events = ended (total_columns yeses unknowns noes patterns events) []
