-- The alternatives of a pattern as text: a heading, and a line for each alternative with its number from 1, a note
-- whether it is contradictory, and the alternative (alternative_texts says what its text is). Columns stand between
-- tabs, and every line ends in LF.
--   note, line_of, line     a line, and its note
--   lines_from, listing     all lines, under the heading
use Rattle.std.specs.Prelude.{ℕ, ◌+◌, Bool, true, false, List, [], ◌∷◌, ◌++◌}
use Rattle.alf.specs.Names.{names_in}
use Rattle.alf.specs.Alternatives.{Alternative, contradictory}
use Rattle.basics.specs.Text.{bytes, joined}
use Rattle.figures.specs.Numbers.{decimal}
use Rattle.alternative_texts.specs.Texts.{alternative_text}

-- whether an alternative is contradictory, in words
unfoldable pub note : Bool → List ℕ
note true = bytes "contradictory"
note false = bytes "-"

-- a line with a number, whether the alternative is contradictory, and the alternative
unfoldable pub line_of : List ℕ → ℕ → Bool → Alternative → List ℕ
line_of names i b x =
    joined (decimal i ∷ bytes "\t" ∷ note b ∷ bytes "\t" ∷ alternative_text names x ∷ bytes "\n" ∷ [])

unfoldable pub line : List ℕ → ℕ → Alternative → List ℕ
line names i x = line_of names i (contradictory (names_in names) x) x

-- a line for each alternative, the first of which has number i
unfoldable pub lines_from : List ℕ → ℕ → List Alternative → List ℕ
lines_from names i [] = []
lines_from names i (x ∷ xs) = line names i x ++ lines_from names (i + 1) xs

unfoldable pub listing : List ℕ → List Alternative → List ℕ
listing names xs = bytes "number\tnote\talternative\n" ++ lines_from names 1 xs
