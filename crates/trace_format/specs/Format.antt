-- Document 01, "Trace file": what bytes a trace has, record by record, and what a trace is.
-- A trace is a list of names in slots of 32 bytes (alf's Names), a list of times, one for each row, and the rows' state
-- codes in one list, row by row.
-- Document 02, "Longer times": a row's time has four bytes (`RW`) or eight (`RL`). So a trace has more than one file:
-- `widths` says how many bytes the time of each row has. The writer takes the fewest.
--   bytes_of, Fits, Fitting              the bytes of a number, over how many they are; a time, and times, that fit
--   name_record, row_record, end_record    the bytes of a name, of a row, of the end
--   name_records, codes_of, row_records    of the first names; a row's codes; of the first rows
--   file_in, fewest, file_of              the bytes of a trace with given widths; the writer's widths, and its bytes
--   Lists, Trace                        lists of the right lengths; a trace
use Rattle.std.specs.Prelude.{ℕ, zero, suc, ◌*◌, ◌/◌, ◌%◌, ◌^◌, ◌<◌, ◌≤◌, ◌≡◌, List, [], ◌∷◌, ◌++◌, ◌⊎◌, eqb, ltb, length, get_or, take, drop, if◌then◌else◌}
use Rattle.alf.specs.Names.{names_in, name_at, GoodSlot}
use Rattle.names.specs.Check.{Slots}

-- so many bytes, low first
unfoldable pub bytes_of : ℕ → ℕ → List ℕ
bytes_of zero x = []
bytes_of (suc w) x = x % 256 ∷ bytes_of w (x / 256)

-- a time has four bytes or eight, and fits into them
pub record Fits (w time : ℕ) : Type 0 where
  pub kind : (w ≡ 4) ⊎ (w ≡ 8)
  pub small : time < 256 ^ w

abbrev pub Fitting : (ℕ → ℕ) → List ℕ → ℕ → Type 0
Fitting widths times n = (r : ℕ) → r < n → Fits (widths r) (get_or times r 0)

-- `NM`: length byte, name
unfoldable pub name_record : List ℕ → List ℕ
name_record name = 78 ∷ 77 ∷ length name ∷ name

-- `RW`: time, four bytes, low first, then a state code for each name. `RL`: likewise, with eight bytes
unfoldable pub row_letter : ℕ → ℕ
row_letter w = if eqb w 8 then 76 else 87

unfoldable pub row_record : ℕ → ℕ → List ℕ → List ℕ
row_record w time codes = 82 ∷ row_letter w ∷ (bytes_of w time ++ codes)

-- `EN`: row count, four bytes, low first
unfoldable pub end_record : ℕ → List ℕ
end_record rows = 69 ∷ 78 ∷ bytes_of 4 rows

-- the records of the first k names, and of the first r rows of k codes each
unfoldable pub name_records : List ℕ → ℕ → List ℕ
name_records names zero = []
name_records names (suc k) = name_records names k ++ name_record (name_at names k)

unfoldable pub codes_of : ℕ → List ℕ → ℕ → List ℕ
codes_of k states r = take k (drop (r * k) states)

unfoldable pub row_records : ℕ → (ℕ → ℕ) → List ℕ → List ℕ → ℕ → List ℕ
row_records k widths times states zero = []
row_records k widths times states (suc r) =
    row_records k widths times states r ++ row_record (widths r) (get_or times r 0) (codes_of k states r)

-- the names, then the rows, then `EN`, then nothing
unfoldable pub file_in : (ℕ → ℕ) → List ℕ → List ℕ → List ℕ → ℕ → List ℕ
file_in widths names times states n =
    name_records names (names_in names) ++ (row_records (names_in names) widths times states n ++ end_record n)

-- the writer uses `RW` where the time fits, and `RL` elsewhere
unfoldable pub fewest : ℕ → ℕ
fewest time = if ltb time 4294967296 then 4 else 8

abbrev pub fewest_of : List ℕ → ℕ → ℕ
fewest_of times r = fewest (get_or times r 0)

abbrev pub file_of : List ℕ → List ℕ → List ℕ → ℕ → List ℕ
file_of names times states n = file_in (fewest_of times) names times states n

-- lists of exactly n entries, states n times the names, n from 1 to 65,535
pub record Lists (names times states : List ℕ) (n : ℕ) : Type 0 where
  pub some : 1 ≤ n
  pub few : n ≤ 65535
  pub times_all : length times ≡ n
  pub states_all : length states ≡ n * names_in names

-- one to 32 names, none of them twice; one to 65,535 rows with rising times; codes 0 to 7
pub record Trace (names times states : List ℕ) (n : ℕ) : Type 0 where
  pub slots : Slots names
  pub good : (k : ℕ) → k < names_in names → GoodSlot names k
  pub lists : Lists names times states n
  pub rising : (r : ℕ) → suc r < n → get_or times r 0 < get_or times (suc r) 0
  pub codes : (i : ℕ) → i < length states → get_or states i 0 ≤ 7
  pub words : (r : ℕ) → get_or times r 0 < 2 ^ 64
