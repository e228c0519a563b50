-- What writing a record needs: room for it.
--   NameFits, TimeFits, RowFits    room for the record of a name, for a time, for the record of a row
use Rattle.std.specs.Prelude.{ℕ, ◌+◌, ◌≤◌, ◌⊎◌, ◌≡◌, List, length}
use Rattle.trace_format.specs.Format.{fewest}

-- a name of at most 32 bytes, and room for its record
pub record NameFits (name out : List ℕ) (at : ℕ) : Type 0 where
  pub few : length name ≤ 32
  pub room : at + 3 + length name ≤ length out

-- four bytes or eight, and room for them
pub record TimeFits (w : ℕ) (out : List ℕ) (at : ℕ) : Type 0 where
  pub kind : (w ≡ 4) ⊎ (w ≡ 8)
  pub room : at + w ≤ length out

-- room for the record of a row, whose time has the fewest bytes
pub record RowFits (time : ℕ) (codes out : List ℕ) (at : ℕ) : Type 0 where
  pub room : at + 2 + fewest time + length codes ≤ length out
