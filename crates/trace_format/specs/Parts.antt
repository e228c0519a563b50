-- What the functions on the parts of a record tell.
--   ByteIs     a byte
--   WordIs     four bytes
--   TimeThere  a time of four bytes or eight stands in the file
--   RowMarked, WidthIs     a row's mark, and how many bytes the time behind it has
--   FewestIs   how many bytes a time is written with
--   CodesTo    the first code above 7
use Rattle.std.specs.Prelude.{ℕ, ◌+◌, ◌<◌, ◌≤◌, ◌≡◌, List, ◌⊎◌, length, get_or}
use Rattle.trace_format.specs.declared.Mark.TheVariants.{Row}
use Rattle.trace_format.specs.Format.{fewest}
use Rattle.trace_format.specs.Records.{mark_at_lem, time_bytes}

pub record ByteIs (byte r : ℕ) : Type 0 where
  pub is : r ≡ byte
  pub small : r < 256

pub record WordIs (word r : ℕ) : Type 0 where
  pub is : r ≡ word
  pub small : r < 4294967296

pub record TimeThere (w : ℕ) (file : List ℕ) (at : ℕ) : Type 0 where
  pub kind : (w ≡ 4) ⊎ (w ≡ 8)
  pub whole : at + w ≤ length file

-- a row's mark stands at a place, and what it tells
pub record RowMarked (file : List ℕ) (at : ℕ) : Type 0 where
  pub marked : at + 2 ≤ length file
  pub row : mark_at_lem file at ≡ Row (time_bytes (mark_at_lem file at))

pub record WidthIs (width r : ℕ) : Type 0 where
  pub is : r ≡ width
  pub kind : (r ≡ 4) ⊎ (r ≡ 8)

-- the bytes that a time is written with
pub record FewestIs (time r : ℕ) : Type 0 where
  pub is : r ≡ fewest time
  pub kind : (r ≡ 4) ⊎ (r ≡ 8)

-- from one place to another: r is the first place of a code above 7, or the latter
pub record CodesTo (codes : List ℕ) (from to r : ℕ) : Type 0 where
  pub low : from ≤ r
  pub high : r ≤ to
  pub good : (i : ℕ) → from ≤ i → i < r → get_or codes i 0 ≤ 7
  pub bad : r < to → 7 < get_or codes r 0
