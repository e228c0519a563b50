-- What the check of a record means for the file. Main names: goes_on, file_refused, file_accepted.
use Rattle.std.specs.Prelude.{Err, Ok}
use Rattle.trace_reader.specs.Reading.{size}
use mathlib.Core.List.{List}
use Prim.Native.Nat.{ℕ}
use Rattle.basics.specs.declared.Refusal.{Refusal}
use Rattle.trace_format.specs.Records.{Before}
use Rattle.record_checks.specs.declared.Cursor.{Cursor}
use Rattle.record_checks.specs.declared.Record.{Record}
use Rattle.record_checks.specs.Steps.{Stands, ChecksRecord, Checks, GoodHere, mark_of_record}
use Rattle.trace_reader.specs.Checking.{Checked}

module _ {file : List ℕ} (s : Cursor) where
  pub goes_on : Stands file s → (m : Record) → Checks file s (Ok m) → GoodHere (mark_of_record m) file s
  unfolding ChecksRecord
  goes_on st m good = record { stands = st; good = good }

  module _ (before : Before file s.names s.rows) where
    pub file_refused : (r : Refusal) → Checks file s (Err r) → Checked file (Err r)
    unfolding ChecksRecord Checked
    file_refused r c =
        (record { names = s.names; rows = s.rows; before = before; refused = c.by }, c.bare)

    pub file_accepted : Checks file s (Ok Record.End) → Checked file (Ok (size s.names s.rows))
    unfolding ChecksRecord Checked
    file_accepted good = record { before = before; ends = good }
