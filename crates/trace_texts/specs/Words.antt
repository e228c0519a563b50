-- A text in lines, and a line in words.
-- Words are parted by blanks: space, tab, CR. Lines are parted by LF. So CR before LF is dropped, and a last line may
-- lack its LF. A line that has no word, or whose first word starts with `#`, says nothing.
--   Word, Line, Lines        a word with the byte where it starts; a line with the byte where it ends; some lines
--   is_blank_lem, joins, before   a byte before words, before lines
--   lines_from                the lines of a text
--   says, saying, lines_of    the lines that say something
use Rattle.std.specs.Prelude.{ℕ, ◌+◌, Bool, false, ◌||◌, not, List, [], ◌∷◌, eqb, get_or, if◌then◌else◌}

pub record Word : Type 0 where
  pub at : ℕ
  pub bytes : List ℕ

pub record Line : Type 0 where
  pub words : List Word
  pub end : ℕ

pub record Lines : Type 0 where
  pub first : Line
  pub rest : List Line

abbrev pub word : ℕ → List ℕ → Word
word p bs = record { at = p; bytes = bs }

abbrev pub line : List Word → ℕ → Line
line ws p = record { words = ws; end = p }

abbrev pub lines : Line → List Line → Lines
lines l ls = record { first = l; rest = ls }

-- space, tab, CR
unfoldable pub is_blank_lem : ℕ → Bool
is_blank_lem b = eqb b 32 || (eqb b 9 || eqb b 13)

-- byte p before the words of a line: it joins the word that starts right behind it, or is a word of its own
unfoldable pub joins : ℕ → ℕ → List Word → List Word
joins p b [] = word p (b ∷ []) ∷ []
joins p b (w ∷ ws) = if eqb w.at (p + 1) then word p (b ∷ w.bytes) ∷ ws else word p (b ∷ []) ∷ w ∷ ws

-- byte p before lines: LF ends a line before them, a blank changes nothing
unfoldable pub before : ℕ → ℕ → Lines → Lines
before p b x =
    if eqb b 10 then lines (line [] p) (x.first ∷ x.rest)
    else if is_blank_lem b then x
    else lines (line (joins p b x.first.words) x.first.end) x.rest

-- the lines of a text whose first byte is byte p
unfoldable pub lines_from : ℕ → List ℕ → Lines
lines_from p [] = lines (line [] p) []
lines_from p (b ∷ bs) = before p b (lines_from (p + 1) bs)

-- a line that says something: a word that does not start with `#` (35)
unfoldable pub says : List Word → Bool
says [] = false
says (w ∷ ws) = not (eqb (get_or w.bytes 0 0) 35)

unfoldable pub saying : List Line → List Line
saying [] = []
saying (l ∷ ls) = if says l.words then l ∷ saying ls else saying ls

unfoldable pub lines_of : List ℕ → List Line
lines_of text = saying ((lines_from 0 text).first ∷ (lines_from 0 text).rest)
