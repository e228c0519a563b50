-- What a file holds, all together: its names in slots, its times, its states; and what the second pass hands on.
--   names_of, times_of, states_of      what the first names and rows hold
--   NamesFit, RowsFit, SlotFits     good names, good rows, a name, and room for them
--   NamesDone                       the names are in place
--   TimeFits, CodesFit, TimeDone    a row, and room for its time or its codes; its time is in place
use Rattle.std.specs.Prelude.{ℕ, zero, suc, ◌+◌, ◌*◌, ◌<◌, ◌≤◌, ◌≡◌, List, [], ◌∷◌, ◌++◌, length, set}
use Rattle.basics.specs.Memory.{front}
use Rattle.alf.specs.Names.{slot_of}
use Rattle.trace_format.specs.declared.Mark.TheVariants.{Name}
use Rattle.trace_format.specs.Records.{name_end, place, name_in, number_at, time_in, codes_in, Good, GoodRow}
use Rattle.trace_format.specs.Parts.{TimeThere}

-- of the first k names; of the first r rows behind k names
unfoldable pub names_of : List ℕ → ℕ → List ℕ
names_of file zero = []
names_of file (suc k) = names_of file k ++ slot_of (name_in file k)

unfoldable pub times_of : List ℕ → ℕ → ℕ → List ℕ
times_of file k zero = []
times_of file k (suc r) = times_of file k r ++ (time_in file k r ∷ [])

unfoldable pub states_of : List ℕ → ℕ → ℕ → List ℕ
states_of file k zero = []
states_of file k (suc r) = states_of file k r ++ codes_in file k r

-- the file begins with k good names, for which there is room
pub record NamesFit (file : List ℕ) (k : ℕ) (out : List ℕ) : Type 0 where
  pub names : (j : ℕ) → j < k → Good Name file j 0
  pub room : k * 32 ≤ length out

-- behind k names stand n good rows, for each of which there are so many elements of room
pub record RowsFit (file : List ℕ) (k at n each : ℕ) (out : List ℕ) : Type 0 where
  pub there : at ≡ place file k 0
  pub rows : (r : ℕ) → r < n → GoodRow file k r
  pub room : n * each ≤ length out

-- the names are in place, and the next record is known
pub record NamesDone (file : List ℕ) (k : ℕ) (out out' : List ℕ) (next : ℕ) : Type 0 where
  pub names : out' ≡ front (names_of file k) out
  pub there : next ≡ name_end file k

-- a name fits as a slot
pub record SlotFits (name out : List ℕ) (at : ℕ) : Type 0 where
  pub few : length name ≤ 32
  pub room : at + 32 ≤ length out

-- a row of k codes stands at q with a time of w bytes; there is room for its time as entry r, for its codes from a
-- place
pub record TimeFits (file : List ℕ) (k q w : ℕ) (out : List ℕ) (r : ℕ) : Type 0 where
  pub time : TimeThere w file (q + 2)
  pub whole : q + 2 + w + k ≤ length file
  pub room : r < length out

pub record CodesFit (file : List ℕ) (k q w : ℕ) (out : List ℕ) (to : ℕ) : Type 0 where
  pub whole : q + 2 + w + k ≤ length file
  pub room : to + k ≤ length out

-- its time is entry r, and the next row is known
pub record TimeDone (file : List ℕ) (k q w : ℕ) (out : List ℕ) (r : ℕ) (out' : List ℕ) (next : ℕ) : Type 0 where
  pub time : out' ≡ set out r (number_at w file (q + 2))
  pub there : next ≡ q + 2 + w + k
