-- What the functions inside ask and give.
--   Sized              the length of a text
--   Listable           times, and codes that have a word
--   Wording, Lining    a word, a line, all lines have room
use Rattle.std.specs.Prelude.{ℕ, ◌<◌, ◌≤◌, ◌≡◌, List, length, get_or}
use Rattle.basics.specs.Memory.{Room}
use Rattle.listing.specs.declared.lines.Column.{Column}
use Rattle.listing.specs.Listing.{highest, lines, Lists}

-- a list of which so many are at most as large as said
pub record Sized (w : List ℕ) (most r : ℕ) : Type 0 where
  pub is : r ≡ length w
  pub few : r ≤ most

-- as many codes as times, and each has a word
pub record Listable (most : ℕ) (times codes : List ℕ) : Type 0 where
  pub lists : Lists (length times) (length codes)
  pub good : (i : ℕ) → i < length codes → get_or codes i 0 ≤ most

-- a code's word, or a line with it, has room
pub record Wording (most a : ℕ) (out : List ℕ) (at : ℕ) (w : List ℕ) : Type 0 where
  pub known : a ≤ most
  pub room : Room out at w

-- the lines of all rows have room
pub record Lining (column : Column) (times codes out : List ℕ) (at : ℕ) : Type 0 where
  pub listable : Listable (highest column) times codes
  pub room : Room out at (lines column times codes)
