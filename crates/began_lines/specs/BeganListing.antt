-- Document 02, [12], "Where the match began", as a listing: document 01's listing with a third column, the time where
-- the match of the row began, or `-` where none is given. The last line is that of document 01's listing.
--   began_word              the third column
--   began_line, began_lines  a row's line, all rows' lines
--   began_listing           the whole, of the rows' times, the number of each row's answer, and where its match began
-- That the first two columns are those of document 01's listing is a law, of a row and of the whole.
use Rattle.std.specs.Prelude.{None, Some}
use Rattle.std.specs.Prelude.{ℕ, List, [], ◌∷◌, eqb, length, get_or}
use Rattle.basics.specs.Words.{count, listed}
use Rattle.basics.specs.Text.{bytes, joined}
use Rattle.alf.specs.Beginnings.{Began}
use Rattle.figures.specs.Numbers.{decimal}
use Rattle.listing.specs.Listing.{word, last_line}

unfoldable pub began_word : Began → List ℕ
began_word (Some t) = decimal t.0
began_word None = bytes "-"

unfoldable pub began_line : ℕ → ℕ → Began → List ℕ
began_line time answer since =
    joined (decimal time ∷ bytes " " ∷ word answer ∷ bytes " " ∷ began_word since ∷ bytes "\n" ∷ [])

-- a line for each row
unfoldable pub began_lines : List ℕ → (ℕ → ℕ) → (ℕ → Began) → List ℕ
began_lines times answers begans =
    joined (listed 0 (length times) (λ i. began_line (get_or times i 0) (answers i) (begans i)))

-- how many of n rows have an answer, by its number
abbrev pub answering : (ℕ → ℕ) → ℕ → ℕ → ℕ
answering answers n a = count n (λ i. eqb (answers i) a)

unfoldable pub began_listing : List ℕ → (ℕ → ℕ) → (ℕ → Began) → List ℕ
began_listing times answers begans =
    joined
    (bytes "time answer began\n"
    ∷ began_lines times answers begans
    ∷ last_line (answering answers (length times) 1) (answering answers (length times) 0)
    (answering answers (length times) 2)
    ∷ [])
