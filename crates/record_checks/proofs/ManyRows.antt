-- The cursor's way past many good rows.
--   row_good_here                       a row that the check found good
--   onward_none, onward_next, onward_then    no record, one more, and as many as two ways passed
use Rattle.std.specs.Prelude.{Err, Ok, is_ok}
use mathlib.Core.Path.{◌≡◌, refl}
use mathlib.Core.Bool.{true}
use mathlib.Core.List.{List}
use Prim.Native.Nat.{ℕ, ◌-◌, ◌≤◌}
use native.Mathlib.Omega.{arith}
use lib.ListN.{length}
use Rattle.basics.proofs.Bools.{never}
use Rattle.record_checks.specs.declared.Cursor.{Cursor}
use Rattle.trace_format.specs.declared.Mark.TheVariants.{Row}
use Rattle.trace_format.specs.Records.{mark_at_lem}
use Rattle.record_checks.specs.Steps.{Stands, StandsAt, RowStands, RecordOutcome, ChecksRecord, Checks}
use Rattle.record_checks.specs.Steps.{GoodHere, Next, Onward}
use Rattle.record_checks.proofs.Cursors.{stands_at}
use Rattle.record_checks.proofs.RowCursors.{row_stands}

module _ {w : ℕ} {file : List ℕ} {s : Cursor} (st : Stands file s) (there : 2 ≤ length file - s.place)
    (marked : mark_at_lem file s.place ≡ Row w) where
  at_row : StandsAt (Row w) file s
  at_row = stands_at st there refl marked

  pub marked_stands : RowStands w file s
  marked_stands = row_stands at_row

  pub row_good_here : (o : RecordOutcome) → Checks file s o → is_ok o ≡ true → GoodHere (Row w) file s
  unfolding ChecksRecord
  row_good_here (Ok m) checked e = record { stands = st; good = record { mark = at_row.mark; passed = checked.passed } }
  row_good_here (Err r) checked e = never e

module _ {file : List ℕ} where
  pub onward_none : {s : Cursor} → Stands file s → Onward file s s
  onward_none st = record { stands = st; before = λ f. f; further = omega arith }

  pub onward_next : {s t u : Cursor} → Onward file s t → Next file t u → Onward file s u
  onward_next o n =
      record {
        stands = n.stands;
        before = λ f. n.before (o.before f);
        further = omega (arith, o.further, n.further);
      }

  pub onward_then : {s t u : Cursor} → Onward file s t → Onward file t u → Onward file s u
  onward_then o p =
      record {
        stands = p.stands;
        before = λ f. p.before (o.before f);
        further = omega (arith, o.further, p.further);
      }
