-- What the functions that look for words and lines find.
--   from                 the lines of a text from a byte on
--   Skips, Runs          the blanks that stand at a byte; the word that starts there
--   is_solid_lem              a byte of a word
--   Finds                a word of a line
--   said_from, Passes, Next     the lines that say something; behind a line; the next that says something
use Rattle.std.specs.Prelude.{ℕ, ◌<◌, ◌≤◌, ◌≡◌, Bool, true, false, ◌||◌, not, List, ◌∷◌, eqb, length, get_or, drop}
use Rattle.trace_texts.specs.Words.{Line, Lines, is_blank_lem, lines_from, says, saying}

-- neither LF nor a blank
unfoldable pub is_solid_lem : ℕ → Bool
is_solid_lem b = not (eqb b 10 || is_blank_lem b)

unfoldable pub from : List ℕ → ℕ → Lines
from text p = lines_from p (drop p text)

-- from p to r there are blanks alone, and at r there is none
pub record Skips (text : List ℕ) (p r : ℕ) : Type 0 where
  pub low : p ≤ r
  pub within : r ≤ length text
  pub same_lines : from text p ≡ from text r
  pub behind : r < length text → is_blank_lem (get_or text r 0) ≡ false

-- from p to r there are bytes of a word alone, and at r there is none
pub record Runs (text : List ℕ) (p r : ℕ) : Type 0 where
  pub low : p ≤ r
  pub within : r ≤ length text
  pub solid : (i : ℕ) → p ≤ i → i < r → is_solid_lem (get_or text i 0) ≡ true
  pub behind : r < length text → is_solid_lem (get_or text r 0) ≡ false

-- word n of the line at p starts at a place and ends at another; where the line has no such word, both are its end
pub record Finds (text : List ℕ) (p n start end : ℕ) : Type 0 where
  pub left : (from text start).first.words ≡ drop n (from text p).first.words
  pub same_end : (from text start).first.end ≡ (from text p).first.end
  pub same_rest : (from text start).rest ≡ (from text p).rest
  pub run : Runs text start end
  pub at_word : start < length text → is_blank_lem (get_or text start 0) ≡ false

-- the lines that say something, from a byte on
unfoldable pub said_from : List ℕ → ℕ → List Line
said_from text p = saying ((from text p).first ∷ (from text p).rest)

-- the first byte behind a line's blanks: neither LF nor `#`
unfoldable pub is_opening : ℕ → Bool
is_opening b = not (eqb b 10 || eqb b 35)

-- r is behind the line at p
pub record Passes (text : List ℕ) (p r : ℕ) : Type 0 where
  pub low : p ≤ r
  pub within : r ≤ length text
  pub on : p < length text → p < r
  pub lines_behind : saying (from text p).rest ≡ said_from text r

-- the next line that says something starts at r, its first word there; where there is none, r is the text's end
pub record Next (text : List ℕ) (p r : ℕ) : Type 0 where
  pub within : r ≤ length text
  pub low : p ≤ r
  pub same_said : said_from text p ≡ said_from text r
  pub says_it : r < length text → says (from text r).first.words ≡ true
