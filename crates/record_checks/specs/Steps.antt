-- What the steps of a reading hand on: where a cursor stands, and what a check of the record there comes to.
--   Stands, StandsAt                 a cursor behind names and rows, at a mark
--   RowStands, TimeStands            at a row, at a row whose time is whole
--   mark_of_record, Checks            the mark of a good record, and what the check of a record comes to
--   NameStands, NewName, Above       a whole name record, a new name, a later time
--   GoodHere, Next, Onward           a good record; the cursor behind it, and behind any number
--   MarkTold, RowTold                what the test for a row tells where it says yes
use Rattle.std.specs.Prelude.{Result, Err, Ok}
use Rattle.std.specs.Prelude.{ℕ, ◌+◌, ◌-◌, ◌<◌, ◌≤◌, Bool, true, ◌≡◌, List, length, get_or}
use Rattle.basics.specs.declared.Refusal.{Refusal}
use Rattle.alf.specs.Refusals.{RefusedBy}
use Rattle.record_checks.specs.declared.Cursor.{Cursor}
use Rattle.record_checks.specs.declared.Record.{Record}
use Rattle.trace_format.specs.declared.Mark.{Mark}
use Rattle.trace_format.specs.declared.Mark.TheVariants.{Name, Row, End}
use Rattle.trace_format.specs.Parts.{TimeThere}
use Rattle.trace_format.specs.Records.{Good, Before, place, time_in, record_order, mark_at_lem, mark_here}
use Rattle.trace_format.specs.Records.{name_end, name_in}

-- a cursor stands behind its names and rows, in the file
pub record Stands (file : List ℕ) (s : Cursor) : Type 0 where
  pub there : s.place ≡ place file s.names s.rows
  pub within : s.place ≤ length file
  pub last : 1 ≤ s.rows → s.last ≡ time_in file s.names (s.rows - 1)
  pub names_few : s.names ≤ 32
  pub rows_few : s.rows ≤ 65535

-- it stands at a mark
pub record StandsAt (m : Mark) (file : List ℕ) (s : Cursor) : Type 0 where
  pub stands : Stands file s
  pub marked : s.place + 2 ≤ length file
  pub mark : mark_here file s.names s.rows ≡ m

-- it stands at a row, whose time has at most eight bytes
pub record RowStands (w : ℕ) (file : List ℕ) (s : Cursor) : Type 0 where
  pub at_row : StandsAt (Row w) file s
  pub few : w ≤ 8

-- it stands at a row, and the w bytes of its time are in the file
pub record TimeStands (w : ℕ) (file : List ℕ) (s : Cursor) : Type 0 where
  pub at_row : StandsAt (Row w) file s
  pub time : TimeThere w file (s.place + 2)

-- the mark of a good record
abbrev pub mark_of_record : Record → Mark
mark_of_record Record.Name = Name
mark_of_record (Record.Row w) = Row w
mark_of_record Record.End = End

-- what the check of a record comes to: it is good and told what it is, or refused
abbrev pub RecordOutcome : Type 0
RecordOutcome = Result Record Refusal

unfoldable pub ChecksRecord : List ℕ → ℕ → ℕ → RecordOutcome → Type 0
ChecksRecord file k r (Ok m) = Good (mark_of_record m) file k r
ChecksRecord file k r (Err x) = RefusedBy (record_order file k r) x

abbrev pub Checks : List ℕ → Cursor → RecordOutcome → Type 0
Checks file s = ChecksRecord file s.names s.rows

-- a whole name record stands behind k names
pub record NameStands (file : List ℕ) (k at : ℕ) : Type 0 where
  pub there : at ≡ name_end file k
  pub whole : at + 3 + get_or file (at + 2) 0 ≤ length file

-- no earlier name is name k
abbrev pub NewName : List ℕ → ℕ → Type 0
NewName file k = (j : ℕ) → j < k → name_in file j ≡ name_in file k → ⊥

-- the time of row r is above the last row's
abbrev pub Above : List ℕ → ℕ → ℕ → Type 0
Above file k r = 1 ≤ r → time_in file k (r - 1) < time_in file k r

-- a good record with a mark stands where the cursor does
pub record GoodHere (m : Mark) (file : List ℕ) (s : Cursor) : Type 0 where
  pub stands : Stands file s
  pub good : Good m file s.names s.rows

-- the cursor behind it
pub record Next (file : List ℕ) (s t : Cursor) : Type 0 where
  pub stands : Stands file t
  pub before : Before file s.names s.rows → Before file t.names t.rows
  pub further : s.place < t.place

-- what a yes tells: the mark of a row whose time has w bytes stands at a place; such a row, a good one, at the cursor
pub record MarkTold (file : List ℕ) (at w : ℕ) (yes : Bool) : Type 0 where
  pub marked : yes ≡ true → mark_at_lem file at ≡ Row w

pub record RowTold (file : List ℕ) (s : Cursor) (w : ℕ) (yes : Bool) : Type 0 where
  pub good : yes ≡ true → GoodHere (Row w) file s

-- a cursor behind any number of good records
pub record Onward (file : List ℕ) (s t : Cursor) : Type 0 where
  pub stands : Stands file t
  pub before : Before file s.names s.rows → Before file t.names t.rows
  pub further : s.place ≤ t.place
