-- What a check of the record at a cursor comes to, with the tests that the code makes.
--   row-..    for `RW` and `RL`
--   end-..    for `EN`
use Rattle.std.specs.Prelude.{Ok}
use mathlib.Core.Path.{◌≡◌, refl, sym, ap, ◌∙◌}
use mathlib.Core.Bool.{Bool, true, false}
use mathlib.Core.List.{List}
use mathlib.Core.Logic.{inl, inr, ⊎_elim}
use Prim.Native.Nat.{ℕ, ◌+◌, ◌-◌, ◌<◌, ◌≤◌}
use native.Mathlib.Omega.{arith}
use lib.ListN.{length}
use Rattle.basics.specs.Deciding.{Decides}
use Rattle.basics.proofs.Deciding.{told, not_told, holds, fails}
use Rattle.alf.specs.Refusals.{RefusedWith, Passed}
use Rattle.record_checks.specs.declared.Cursor.{Cursor}
use Rattle.record_checks.specs.declared.Record.{Record}
use Rattle.trace_format.specs.declared.Mark.TheVariants.{Row, End}
use Rattle.trace_format.specs.Records.{place, time_bytes, width_in, time_in, number_at, Due, size_of, contents, BadCode}
use Rattle.trace_format.proofs.RowByRow.{not_above}
use Rattle.trace_format.specs.Parts.{CodesTo}
use Rattle.trace_format.proofs.MarkBytes.{row_kind}
use Rattle.record_checks.specs.Steps.{StandsAt, RowStands, TimeStands, RecordOutcome, Checks, Above}
use Rattle.record_checks.proofs.Orders.{Is}
use Rattle.record_checks.proofs.Cursors.{undue, cut, inside, done}

-- the width of the row where the cursor stands, and its time
module _ {w : ℕ} {file : List ℕ} {s : Cursor} (st : StandsAt (Row w) file s) where
  pub width_here : width_in file s.names s.rows ≡ w
  unfolding time_bytes
  width_here = ap time_bytes st.mark

  pub row_stands : RowStands w file s
  row_stands =
      record {
        at_row = st;
        few = ⊎_elim (λ e. omega arith) (λ e. omega arith) (row_kind _ _ st.mark);
      }

  pub time_here : number_at w file (s.place + 2) ≡ time_in file s.names s.rows
  unfolding time_in
  time_here = rw (st.stands.there, width_here)

  pub above_first : s.rows ≡ 0 → Decides true (Above file s.names s.rows)
  above_first e = holds (λ h. absurd (omega arith))

  module _ {t : ℕ} (read : t ≡ number_at w file (s.place + 2)) where
    now_time : t ≡ time_in file s.names s.rows
    now_time = read ∙ time_here

    pub above_yes : s.last < t → Decides true (Above file s.names s.rows)
    above_yes l = holds (λ h. omega (arith, now_time, st.stands.last h))

    pub above_no : (s.rows ≡ 0 → ⊥) → t ≤ s.last → Decides false (Above file s.names s.rows)
    above_no n l =
        fails (λ a. let h : 1 ≤ s.rows = omega (arith, n) in omega (arith, a h, now_time, st.stands.last h))

-- `RW` and `RL`
module _ {w : ℕ} {file : List ℕ} {s : Cursor} (st : StandsAt (Row w) file s) where
  pub row_unnamed : {o : RecordOutcome} → Is o 11 s.place → s.names ≡ 0 → Checks file s o
  unfolding Due
  row_unnamed e z = undue st e (λ d. omega (arith, d.0))

  pub row_65536th : {o : RecordOutcome} → Is o 11 s.place → 65534 < s.rows → Checks file s o
  unfolding Due
  row_65536th e z = undue st e (λ d. omega (arith, d.1))

  codes_here : place file s.names s.rows + 2 + width_in file s.names s.rows ≡ s.place + 2 + w
  codes_here = omega (arith, st.stands.there, width_here st)

  module _ (some : s.names ≡ 0 → ⊥) (few : s.rows ≤ 65534) where
    row_due : Due s.names s.rows (Row w)
    unfolding Due
    row_due = (omega arith, omega arith)

    pub row_cut : {o : RecordOutcome} → Is o 14 (length file) → length file - s.place < 2 + w + s.names
        → Checks file s o
    unfolding size_of
    row_cut e h = cut st row_due e (omega arith)

    module _ (whole : 2 + w + s.names ≤ length file - s.place) where
      row_fits : s.place + size_of file s.names s.rows (Row w) ≤ length file
      unfolding size_of
      row_fits = omega (arith, st.stands.within)

      pub row_whole : TimeStands w file s
      row_whole =
          record {
            at_row = st;
            time = record { kind = row_kind _ _ st.mark; whole = omega (arith, st.stands.within) };
          }

      module _ {b : Bool} (tested : Decides b (Above file s.names s.rows)) where
        pub row_not_above : {o : RecordOutcome} → Is o 13 (s.place + 2) → b ≡ false → Checks file s o
        unfolding RefusedWith contents
        row_not_above e f =
            inside st row_due row_fits 13 (s.place + 2) e
            (inl (
              refl,
              record {
                given = not_above s.rows _ _ (not_told _ tested f);
                there = ap (λ (p : ℕ). p + 2) st.stands.there;
              },
            ))

        module _ (above : b ≡ true) where
          rising : (p : ℕ) → Rattle.alf.specs.Refusals.At (place file s.names s.rows + 2)
              ((1 ≤ s.rows) × (time_in file s.names s.rows ≤ time_in file s.names (s.rows - 1))) p → ⊥
          rising p a = omega (arith, told _ tested above a.given.0, a.given.1)

          module _ {bad : ℕ} (codes : CodesTo file (s.place + 2 + w) (s.place + 2 + w + s.names) bad) where
            no_code : (p : ℕ) → p < bad → BadCode file s.names s.rows p → ⊥
            no_code p l b =
                omega (arith, codes.good p (omega (arith, b.from, codes_here)) l, b.above)

            pub row_code : {o : RecordOutcome} → Is o 15 bad → bad < s.place + 2 + w + s.names → Checks file s o
            unfolding RefusedWith contents
            row_code e l =
                inside st row_due row_fits 15 bad e
                (inr (
                  rising,
                  inl (
                    refl,
                    record {
                      given =
                          record {
                            from = omega (arith, codes.low, codes_here);
                            to = omega (arith, codes_here);
                            above = codes.bad l;
                          };
                      before = no_code;
                    },
                  ),
                ))

            pub row_good : s.place + 2 + w + s.names ≤ bad → Checks file s (Ok (Record.Row w))
            unfolding Passed contents
            row_good l =
                done st row_due row_fits (Record.Row w) refl (
                  rising,
                  ((λ p a. no_code p (omega (arith, a.given.to, codes_here)) a.given), tt),
                )

-- `EN`
module _ {file : List ℕ} {s : Cursor} (st : StandsAt End file s) where
  pub end_early : {o : RecordOutcome} → Is o 11 s.place → s.rows ≡ 0 → Checks file s o
  unfolding Due
  end_early e z = undue st e (λ d. omega (arith, d))

  module _ (some : s.rows ≡ 0 → ⊥) where
    end_due : Due s.names s.rows End
    unfolding Due
    end_due = omega arith

    pub end_cut : {o : RecordOutcome} → Is o 14 (length file) → length file - s.place < 6 → Checks file s o
    unfolding size_of
    end_cut e h = cut st end_due e (omega arith)

    module _ (whole : 6 ≤ length file - s.place) where
      end_fits : s.place + size_of file s.names s.rows End ≤ length file
      unfolding size_of
      end_fits = omega (arith, st.stands.within)

      module _ {n : ℕ} (read : n ≡ number_at 4 file (s.place + 2)) where
        count_here : n ≡ number_at 4 file (place file s.names s.rows + 2)
        count_here = rw (← st.stands.there) read

        pub end_count : {o : RecordOutcome} → Is o 16 (s.place + 2) → (n ≡ s.rows → ⊥) → Checks file s o
        unfolding RefusedWith contents
        end_count e w =
            inside st end_due end_fits 16 (s.place + 2) e
            (inl
            (refl, record { given = λ f. w (count_here ∙ f); there = ap (λ (p : ℕ). p + 2) st.stands.there }))

        module _ (right : n ≡ s.rows) where
          counted : (p : ℕ) → Rattle.alf.specs.Refusals.At (place file s.names s.rows + 2)
              (number_at 4 file (place file s.names s.rows + 2) ≡ s.rows → ⊥) p → ⊥
          counted p a = a.given (sym count_here ∙ right)

          pub end_after : {o : RecordOutcome} → Is o 17 (s.place + 6) → 6 < length file - s.place → Checks file s o
          unfolding RefusedWith contents
          end_after e l =
              inside st end_due end_fits 17 (s.place + 6) e
              (inr (
                counted,
                inl (
                  refl,
                  record {
                    given = omega (arith, st.stands.there);
                    there = ap (λ (p : ℕ). p + 6) st.stands.there;
                  },
                ),
              ))

          pub end_good : length file - s.place ≤ 6 → Checks file s (Ok Record.End)
          unfolding Passed contents
          end_good l =
              done st end_due end_fits Record.End refl
              (counted, ((λ p a. omega (arith, a.given, st.stands.there, st.stands.within)), tt))
