-- The cursor's steps: past a good name, past a good row; and the start.
-- Main names: pass_name, pass_row, start_stands.
use mathlib.Core.Path.{◌≡◌, refl, sym, ap, ◌∙◌}
use mathlib.Core.List.{List}
use Prim.Native.Nat.{ℕ, ◌+◌, ◌-◌, ◌≤◌}
use native.Mathlib.Omega.{arith}
use native.Mathlib.Numerals.{add-one}
use lib.ListN.{length, get_or}
use borrow.Author.Count.{below_none, below_more}
use Rattle.record_checks.specs.declared.Cursor.{Cursor}
use Rattle.trace_format.specs.declared.Mark.TheVariants.{Name, Row}
use Rattle.trace_format.specs.Records.{place, name_end, width_in, time_in, number_at}
use Rattle.trace_format.specs.Records.{GoodRow, Before}
use Rattle.trace_format.specs.Parts.{ByteIs, TimeThere}
use Rattle.trace_format.proofs.MarkBytes.{row_kind}
use Rattle.record_checks.specs.Steps.{Stands, StandsAt, GoodHere, Next}
use Rattle.record_checks.proofs.NameWalk.{end_zero, end_suc}
use Rattle.record_checks.proofs.GoodRecords.{NameFacts, RowFacts, good_name, good_row, name_first}
use Rattle.record_checks.proofs.RowCursors.{time_here}

pub place_zero : (file : List ℕ) (k : ℕ) → place file k 0 ≡ name_end file k
unfolding place
place_zero file k = refl

pub place_name : (file : List ℕ) (k : ℕ)
    → place file (k + 1) 0 ≡ place file k 0 + 3 + get_or file (place file k 0 + 2) 0
place_name file k = rw (place_zero file (k + 1), place_zero file k, add-one) (end_suc file k)

pub place_row : (file : List ℕ) (k r : ℕ) → place file k (r + 1) ≡ place file k r + 2 + width_in file k r + k
unfolding place
place_row file k r = rw add-one

module _ {file : List ℕ} {s : Cursor} where
  -- past a name
  module _ (goes : GoodHere Name file s) where
    none : s.rows ≡ 0
    none = name_first file s.names s.rows goes.good

    pub name_facts : NameFacts file s.names
    name_facts = good_name file s.names (rw none at goes.good)

    here : s.place ≡ place file s.names 0
    here = goes.stands.there ∙ ap (place file s.names) none

    pub name_fits : s.place + 3 + get_or file (s.place + 2) 0 ≤ length file
    name_fits = rw here name_facts.fits

    pub pass_name :
        {b : ℕ} →
        ByteIs (get_or file (s.place + 2) 0) b →
        Next file s (record { place = s.place + (3 + b); names = s.names + 1; rows = s.rows; last = s.last })
    pass_name {b} byte =
        record {
          stands =
              record {
                there = there;
                within = omega (arith, name_fits, byte.is);
                last = λ h. absurd (omega (arith, none));
                names_few = omega (arith, name_facts.few);
                rows_few = goes.stands.rows_few;
              };
          before =
              λ f.
              record {
                names = below_more _ _ f.names (rw none at goes.good);
                rows = λ i l. absurd (omega (arith, none));
              };
          further = omega arith;
        }
      where
        there : s.place + (3 + b) ≡ place file (s.names + 1) s.rows
        there =
            rw (none, place_name file s.names, ← here) (omega (arith, byte.is))

  -- past a row
  module _ {w : ℕ} (goes : GoodHere (Row w) file s) where
    pub stands_row : s.place + 2 ≤ length file → StandsAt (Row w) file s
    stands_row h = record { stands = goes.stands; marked = h; mark = goes.good.mark }

    width : width_in file s.names s.rows ≡ w
    unfolding Rattle.trace_format.specs.Records.time_bytes
    width = ap Rattle.trace_format.specs.Records.time_bytes goes.good.mark

    row_there : GoodRow file s.names s.rows
    row_there = record { mark = goes.good.mark ∙ ap Row (sym width); passed = goes.good.passed }

    pub row_facts : RowFacts file s.names s.rows
    row_facts = good_row file s.names s.rows row_there

    pub row_fits : s.place + 2 + w + s.names ≤ length file
    row_fits = omega (arith, width, goes.stands.there, row_facts.fits)

    pub time_there : TimeThere w file (s.place + 2)
    time_there = record { kind = row_kind _ _ goes.good.mark; whole = omega (arith, row_fits) }

    pub pass_row :
        {t : ℕ} →
        t ≡ number_at w file (s.place + 2) →
        Next file s (record { place = s.place + 2 + w + s.names; names = s.names; rows = s.rows + 1; last = t })
    pass_row {t} read =
        record {
          stands =
              record {
                there = omega (arith, place_row file s.names s.rows, goes.stands.there, width);
                within = row_fits;
                last = λ h. last;
                names_few = goes.stands.names_few;
                rows_few = omega (arith, row_facts.few);
              };
          before = λ f. record { names = f.names; rows = below_more _ _ f.rows row_there };
          further = omega arith;
        }
      where
        last : t ≡ time_in file s.names (s.rows + 1 - 1)
        last =
            let e : s.rows + 1 - 1 ≡ s.rows = omega arith in
            rw e (read ∙ time_here (stands_row (omega (arith, row_fits))))

pub start_stands : (file : List ℕ) → Stands file (record { place = 0; names = 0; rows = 0; last = 0 })
start_stands file =
    record {
      there = sym (place_zero file 0 ∙ end_zero file);
      within = omega arith;
      last = λ h. absurd (omega arith);
      names_few = omega arith;
      rows_few = omega arith;
    }

pub start_before : (file : List ℕ) → Before file 0 0
start_before file = record { names = below_none _; rows = below_none _ }
