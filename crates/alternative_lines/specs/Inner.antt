-- What the functions inside ask and give, besides alternative_texts' own.
--   flagged, noted, marked       a line's note by its flag; the line's number and note
--   lines_with, headed_lines       the lines, each note by a flag; the heading before them
--   AllLines                     the lists of an accepted tree, with flags
--   Low                          a place far below the last one of 64 bits
use Rattle.std.specs.Prelude.{ℕ, ◌+◌, ◌≤◌, Bool, not, List, [], ◌∷◌, ◌++◌, eqb, length}
use Rattle.alf.specs.Names.{names_in}
use Rattle.alf.specs.Alternatives.{Alternative}
use Rattle.alternatives.specs.InMemory.{Shape}
use Rattle.writer.specs.Writing.{Named}
use Rattle.basics.specs.Text.{bytes, joined}
use Rattle.figures.specs.Numbers.{decimal}
use Rattle.alternative_lines.specs.Listing.{note, line_of}

-- the note by a flag, between its tabs
unfoldable pub flagged : ℕ → Bool
flagged f = not (eqb f 0)

unfoldable pub noted : ℕ → List ℕ
noted f = joined (bytes "\t" ∷ note (flagged f) ∷ bytes "\t" ∷ [])

-- the lines, each note by a flag
unfoldable pub lines_with : List ℕ → ℕ → List ℕ → List Alternative → List ℕ
lines_with names i [] xs = []
lines_with names i (f ∷ fs) [] = []
lines_with names i (f ∷ fs) (x ∷ xs) = line_of names i (flagged f) x ++ lines_with names (i + 1) fs xs

-- all alternatives, with a flag for each
pub record AllLines (names tree steps tests edges operands flags : List ℕ) (at : ℕ) : Type 0 where
  pub named : Named names
  pub short : length tree ≤ 256
  pub shape : Shape tree (names_in names) steps tests edges operands
  pub flags_there : length steps ≤ length flags
  pub low : at ≤ 1000

-- the heading and these lines
unfoldable pub headed_lines : List ℕ → List ℕ → List Alternative → List ℕ
headed_lines names flags xs = bytes "number\tnote\talternative\n" ++ lines_with names 1 flags xs

-- the number and the note of a line
unfoldable pub marked : ℕ → ℕ → List ℕ
marked number flag = decimal number ++ noted flag

-- a place far below the last one of 64 bits
pub record Low (at : ℕ) : Type 0 where
  pub low : at ≤ 2000000000000
