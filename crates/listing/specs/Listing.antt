-- Document 01, "The program's listing": a heading, a line for each row with its time and its answer in words, and last
-- how many rows answer yes, no and unknown. Every line ends in LF, the last too.
-- The listing of an expression's values has the same lines, with the letter of a state for the answer's word, under a
-- heading of its own, and no last line.
--   word, letter, word_of, highest    what a line tells behind the time
--   line, lines, last_line            a row's line, all rows' lines, the totals
--   how_many                          how many answers have a number
--   listing, values_listing           the whole
--   Lists                            times and codes of which a listing can be made
-- Case 1's listing and case 8's values are computed as examples, byte for byte.
use Rattle.std.specs.Prelude.{ℕ, ◌≡◌, List, [], ◌∷◌, ◌++◌, eqb, length, get_or}
use Rattle.basics.specs.Words.{count}
use Rattle.alf.specs.Refusals.{RowCount}
use Rattle.listing.specs.declared.lines.Column.{Column}
use Rattle.listing.specs.declared.lines.Column.TheVariants.{Answers, Values}
use Rattle.basics.specs.Text.{bytes, joined}
use Rattle.figures.specs.Numbers.{decimal}

-- an answer's word, by document 01's number of the answer
unfoldable pub word : ℕ → List ℕ
word a = get_or (bytes "no" ∷ bytes "yes" ∷ bytes "unknown" ∷ bytes "none" ∷ []) a []

-- a state's letter, by document 01's code of the state
unfoldable pub letter : ℕ → ℕ
letter s = get_or (bytes "01XHLWZU") s 0

-- what a row's line tells behind the time, and the highest number that has a word
unfoldable pub word_of : Column → ℕ → List ℕ
word_of Answers a = word a
word_of Values s = letter s ∷ []

unfoldable pub highest : Column → ℕ
highest Answers = 3
highest Values = 7

unfoldable pub line : Column → ℕ → ℕ → List ℕ
line column time code = joined (decimal time ∷ bytes " " ∷ word_of column code ∷ bytes "\n" ∷ [])

-- a line for each row
unfoldable pub lines : Column → List ℕ → List ℕ → List ℕ
lines column [] codes = []
lines column (t ∷ times) [] = []
lines column (t ∷ times) (a ∷ codes) = line column t a ++ lines column times codes

-- how many answers have a number
unfoldable pub how_many : List ℕ → ℕ → ℕ
how_many answers a = count (length answers) (λ i. eqb (get_or answers i 0) a)

unfoldable pub last_line : ℕ → ℕ → ℕ → List ℕ
last_line yeses noes unknowns =
    joined
    (bytes "yes " ∷ decimal yeses ∷ bytes " no " ∷ decimal noes ∷ bytes " unknown " ∷ decimal unknowns
    ∷ bytes "\n" ∷ [])

unfoldable pub listing : List ℕ → List ℕ → List ℕ
listing times answers =
    joined
    (bytes "time answer\n"
    ∷ lines Answers times answers
    ∷ last_line (how_many answers 1) (how_many answers 0) (how_many answers 2)
    ∷ [])

unfoldable pub values_listing : List ℕ → List ℕ → List ℕ
values_listing times values = joined (bytes "time value\n" ∷ lines Values times values ∷ [])

-- 1 to 65,535 times, and as many codes: answers, or values
pub record Lists (times codes : ℕ) : Type 0 where
  pub rows : RowCount times
  pub same : codes ≡ times
