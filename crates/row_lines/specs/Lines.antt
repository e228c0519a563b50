-- The lines of the activity listing: for each row its time, a letter for each state, how many names changed, and which.
-- Every line ends in LF. Of table T the second is:
--     10 1 1 1 1 A
--   member, members               the names of a set, each behind a blank
--   letters                       the letters of a row's states, each behind a blank
--   row_line, row_lines             a row's line, the lines of some rows
-- What changed is alf's `changed` and `change_count`.
use Rattle.std.specs.Prelude.{ℕ, Bool, List, [], ◌∷◌, get_or, if◌then◌else◌}
use Rattle.basics.specs.Words.{listed}
use Rattle.basics.specs.Text.{bytes, joined}
use Rattle.alf.specs.Names.{name_at}
use Rattle.alf.specs.Traces.{changed, change_count}
use Rattle.alf.specs.Values.{row_of}
use Rattle.figures.specs.Numbers.{decimal}
use Rattle.listing.specs.Listing.{letter}

-- name i behind a blank (32), if it is in a set; else nothing
unfoldable pub member : List ℕ → (ℕ → Bool) → ℕ → List ℕ
member names set i = if set i then 32 ∷ name_at names i else []

-- the names of a set, of the first k, in the order of the list
unfoldable pub members : List ℕ → ℕ → (ℕ → Bool) → List ℕ
members names k set = joined (listed 0 k (member names set))

-- the letters of k states
unfoldable pub letters : ℕ → (ℕ → ℕ) → List ℕ
letters k row = joined (listed 0 k (λ i. 32 ∷ letter (row i) ∷ []))

-- row r, at a time
unfoldable pub row_line : List ℕ → ℕ → List ℕ → ℕ → ℕ → List ℕ
row_line names k states time r =
    joined
    (decimal time ∷ letters k (row_of k states r) ∷ bytes " " ∷ decimal (change_count k states r)
    ∷ members names k (changed k states r) ∷ bytes "\n" ∷ [])

-- so many rows from row `first` on
unfoldable pub row_lines : List ℕ → ℕ → List ℕ → List ℕ → ℕ → ℕ → List ℕ
row_lines names k times states first many =
    joined (listed first many (λ r. row_line names k states (get_or times r 0) r))
