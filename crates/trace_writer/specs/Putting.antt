-- What the steps of writing need and hand on: lists of the right lengths, and room.
--   SlotsFit, RowsFit              room for the records of k names, of n rows
--   SlotsLent, RowsLent, SomeRows  lists of k slots, of n rows; some of the rows
--   TimesLent                      a list of n times
--   Later                          the time of a row is above the last row's
--   NamesSize, rows_size, RowsSize  how many bytes the records of k names have, and of n rows
--   NamesGood, Good                lists that pass 18 and 12; 13 and 15 too
use Rattle.std.specs.Prelude.{ℕ, zero, suc, ◌+◌, ◌-◌, ◌*◌, ◌<◌, ◌≤◌, ◌≡◌, List, length, get_or}
use Rattle.alf.specs.Names.{names_in, GoodSlot}
use Rattle.alf.specs.Refusals.{Passed}
use Rattle.trace_format.specs.Format.{name_records, fewest_of}
use Rattle.trace_writer.specs.Writing.{AllLists, lists_order}

-- the time of row r is above the last row's
abbrev pub Later : List ℕ → ℕ → Type 0
Later times r = 0 < r → get_or times (r - 1) 0 < get_or times r 0

-- n rows of k codes each
pub record RowsLent (k : ℕ) (times states : List ℕ) (n : ℕ) : Type 0 where
  pub times_all : length times ≡ n
  pub states_all : length states ≡ n * k

-- so many of the rows from one on are rows of the trace
pub record SomeRows (k : ℕ) (times states : List ℕ) (first many : ℕ) : Type 0 where
  pub times_all : first + many ≤ length times
  pub states_all : (first + many) * k ≤ length states

-- k slots, no more than 32
pub record SlotsLent (names : List ℕ) (k : ℕ) : Type 0 where
  pub there : k * 32 ≤ length names
  pub few : k ≤ 32

-- the records of k names have so many bytes
pub record NamesSize (names : List ℕ) (k size : ℕ) : Type 0 where
  pub is : size ≡ length (name_records names k)
  pub few : size ≤ k * 35

-- n times, and k codes to each
pub record TimesLent (k : ℕ) (times : List ℕ) (n : ℕ) : Type 0 where
  pub all : length times ≡ n
  pub few : n ≤ 65535
  pub few_names : k ≤ 32

-- the records of n rows have so many bytes: a mark, a time and k codes each
unfoldable pub rows_size : ℕ → (ℕ → ℕ) → ℕ → ℕ
rows_size k widths zero = 0
rows_size k widths (suc r) = rows_size k widths r + (2 + widths r + k)

pub record RowsSize (k : ℕ) (times : List ℕ) (n size : ℕ) : Type 0 where
  pub is : size ≡ rows_size k (fewest_of times) n
  pub few : size ≤ n * 42

-- k slots, and room for their records
pub record SlotsFit (names : List ℕ) (k : ℕ) (out : List ℕ) : Type 0 where
  pub there : k * 32 ≤ length names
  pub room : length (name_records names k) ≤ length out

-- n rows of k codes each, and room for their records
pub record RowsFit (k : ℕ) (times states : List ℕ) (n : ℕ) (out : List ℕ) (at : ℕ) : Type 0 where
  pub lent : RowsLent k times states n
  pub room : at + rows_size k (fewest_of times) n ≤ length out

-- lists that pass 18 and 12
pub record NamesGood (names times states : List ℕ) (n k : ℕ) : Type 0 where
  pub all : AllLists names times states n
  pub good : (j : ℕ) → j < names_in names → GoodSlot names j
  pub counted : k ≡ names_in names

-- lists that pass 13 and 15 too
pub record Good (names times states : List ℕ) (n k : ℕ) : Type 0 where
  pub named : NamesGood names times states n k
  pub passed : Passed (lists_order names times states n)
