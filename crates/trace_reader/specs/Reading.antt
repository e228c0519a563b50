-- What reading a trace file comes to: the trace whose bytes it is, or a refusal.
--   Accepted, FileRefused     what the first pass comes to
--   room_order, RoomRefused    9, for the first list that is short
--   Got, Untouched, Reads     the trace in the three lists, or the lists as before
use Rattle.std.specs.Prelude.{Err, Ok, Result}
use Rattle.trace_reader.specs.declared.Size.{Size}
use Rattle.basics.specs.declared.Refusal.{Refusal}
use Rattle.std.specs.Prelude.{ℕ, ◌*◌, ◌⊎◌, ◌≡◌, List, [], ◌∷◌, length}
use Rattle.alf.specs.Names.{names_in}
use Rattle.alf.specs.Refusals.{Order, check, no_room, RefusedWith, Bare, Passed}
use Rattle.trace_format.specs.declared.Mark.TheVariants.{End}
use Rattle.trace_format.specs.Format.{Trace, Fitting, file_in}
use Rattle.trace_format.specs.Records.{record_order, Good, Before}
use Rattle.basics.specs.Memory.{front}

-- what reading comes to: how many names and rows, or a refusal
abbrev pub Reading : Type 0
Reading = Result Size Refusal

abbrev pub size : ℕ → ℕ → Size
size k n = record { names = k; rows = n }

-- k names and n rows, and a good `EN` behind them
pub record Accepted (file : List ℕ) (k n : ℕ) : Type 0 where
  pub before : Before file k n
  pub ends : Good End file k n

-- the first record that is not good is refused with a number at a place
pub record FileRefused (file : List ℕ) (number p : ℕ) : Type 0 where
  pub names : ℕ
  pub rows : ℕ
  pub before : Before file names rows
  pub refused : RefusedWith (record_order file names rows) number p

-- 9 last, for the first short one of names, times, states
abbrev pub room_order : List ℕ → List ℕ → List ℕ → ℕ → ℕ → Order
room_order names times states k n =
    check 9 (no_room (k * 32) (length names))
    ∷ check 9 (no_room n (length times))
    ∷ check 9 (no_room (n * k) (length states))
    ∷ []

pub record RoomRefused (file names times states : List ℕ) (number p : ℕ) : Type 0 where
  pub k : ℕ
  pub n : ℕ
  pub accepted : Accepted file k n
  pub refused : RefusedWith (room_order names times states k n) number p

-- the file is the bytes of a trace of k names and n rows, for which there is room and which now stands in the lists;
-- how many bytes each row's time has does not matter
pub record Got (file names times states : List ℕ) (k n : ℕ) (names' times' states' : List ℕ) : Type 0 where
  pub ns : List ℕ
  pub ts : List ℕ
  pub ss : List ℕ
  pub trace : Trace ns ts ss n
  pub widths : ℕ → ℕ
  pub fitting : Fitting widths ts n
  pub bytes : file ≡ file_in widths ns ts ss n
  pub named : k ≡ names_in ns
  pub room : Passed (room_order names times states k n)
  pub names_now : names' ≡ front ns names
  pub times_now : times' ≡ front ts times
  pub states_now : states' ≡ front ss states

pub record Untouched (names times states names' times' states' : List ℕ) : Type 0 where
  pub names_kept : names' ≡ names
  pub times_kept : times' ≡ times
  pub states_kept : states' ≡ states

unfoldable pub Reads : List ℕ → List ℕ → List ℕ → List ℕ → List ℕ → List ℕ → List ℕ
    → Reading → Type 0
Reads file names times states names' times' states' (Ok s) =
    Got file names times states s.names s.rows names' times' states'
Reads file names times states names' times' states' (Err r) =
    (FileRefused file r.number r.place ⊎ RoomRefused file names times states r.number r.place) × Bare r
    × Untouched names times states names' times' states'
