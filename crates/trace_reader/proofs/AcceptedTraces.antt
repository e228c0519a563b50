-- An accepted file is the bytes of a trace: of the names, times and states that it holds.
-- Main names: accepted_trace, accepted_fits, accepted_bytes. Assumes that the file is a list of bytes.
use mathlib.Core.Path.{◌≡◌, refl, sym, ap, ◌∙◌}
use mathlib.Core.List.{List, ◌++◌, append_assoc}
use Prim.Native.Nat.{ℕ, zero, suc, ◌-◌, ◌*◌, ◌≤◌, ◌<◌}
use native.Mathlib.Omega.{arith}
use native.Mathlib.Numerals.{add-one}
use lib.ListN.{length, get_or, drop}
use Rattle.alf.specs.Names.{names_in, slot_of, name_at, GoodSlot}
use Rattle.names.specs.Check.{Slots}
use Rattle.trace_format.specs.Format.{name_record, row_record, name_records, row_records, file_in, Lists, Trace, Fitting}
use Rattle.trace_format.specs.Records.{place, name_end, name_in, width_in, time_in, codes_in, GoodRow}
use Rattle.trace_reader.specs.Reading.{Accepted}
use Rattle.record_copies.specs.HeldLists.{names_of, times_of, states_of}
use Rattle.record_checks.proofs.GoodRecords.{NameFacts, RowFacts, EndFacts, good_name, good_row, good_end}
use Rattle.record_checks.proofs.CursorSteps.{place_zero}
use Rattle.record_checks.proofs.NameWalk.{end_zero}
use Rattle.record_copies.proofs.Copying.{names_length, times_length, states_length}
use Rattle.trace_reader.proofs.SpeltRecords.{name_spelt, row_spelt, end_spelt}
use Rattle.trace_reader.proofs.NameSlots.{slot_of_names, name_of_names}
use Rattle.trace_reader.proofs.HeldRows.{time_of_times, codes_of_states, time_fits, times_small, states_small}

module _ {file : List ℕ} {k n : ℕ} (accepted : Accepted file k n) where
  names : List ℕ
  names = names_of file k

  name : (j : ℕ) → j < k → NameFacts file j
  name j h = good_name file j (accepted.before.names j h)

  rows : (r : ℕ) → r < n → GoodRow file k r
  rows = accepted.before.rows

  row : (r : ℕ) → r < n → RowFacts file k r
  row r h = good_row file k r (rows r h)

  ends : EndFacts file k n
  ends = good_end file k n accepted.ends

  pub some_names_lem : 1 ≤ k
  some_names_lem = (row 0 ends.some).named

  pub few_names : k ≤ 32
  few_names = let h : k - 1 < k = omega (arith, some_names_lem) in omega (arith, (name (k - 1) h).few)

  pub few_rows : n ≤ 65535
  few_rows = let h : n - 1 < n = omega (arith, ends.some) in omega (arith, (row (n - 1) h).few)

  pub counted : names_in (names_of file k) ≡ k
  counted = let e : length (names_of file k) ≡ k * 32 = names_length file k in rw e (omega arith)

  name_at_lem : (j : ℕ) → j < k → name_at (names_of file k) j ≡ name_in file j
  name_at_lem j h = name_of_names file k j h (name j h).good.named

  good_slot : (j : ℕ) → j < k → GoodSlot (names_of file k) j
  good_slot j h =
      record {
        named = rw (name_at_lem j h) (name j h).good.named;
        filled = slot_of_names file k j h ∙ ap slot_of (sym (name_at_lem j h));
        new =
            λ i l e.
            let li : i < k = omega arith in
            (name j h).good.new i l (sym (name_at_lem i li) ∙ e ∙ name_at_lem j h);
      }

  slots : Slots (names_of file k)
  slots =
      let e : length (names_of file k) ≡ k * 32 = names_length file k in
      record { whole = rw e (omega arith); some = rw counted some_names_lem; few = rw counted few_names }

  lists : Lists (names_of file k) (times_of file k n) (states_of file k n) n
  lists =
      record {
        some = ends.some;
        few = few_rows;
        times_all = times_length file k n rows n;
        states_all = rw counted (states_length file k n rows n (omega arith));
      }

  rising : (r : ℕ) → suc r < n → get_or (times_of file k n) r 0 < get_or (times_of file k n) (suc r) 0
  rising r h =
      let e : suc r - 1 ≡ r = omega arith in
      rw (time_of_times file k n rows n r (omega arith), time_of_times file k n rows n (suc r) h)
      (rw e at ((row (suc r) h).above (omega arith)))

  module _ (bytes : (i : ℕ) → get_or file i 0 < 256) where
    pub accepted_trace : Trace (names_of file k) (times_of file k n) (states_of file k n) n
    accepted_trace =
        record {
          slots = slots;
          good = λ j h. good_slot j (rw counted at h);
          lists = lists;
          rising = rising;
          codes = λ i h. states_small file k n rows n (omega arith) i;
          words = times_small file k n rows bytes n (omega arith);
        }

    pub accepted_fits : Fitting (width_in file k) (times_of file k n) n
    accepted_fits r h = rw (time_of_times file k n rows n r h) (time_fits file k n rows bytes r h)

    names_bytes : (j : ℕ) → j ≤ k → file ≡ name_records (names_of file k) j ++ drop (name_end file j) file
    unfolding name_records
    names_bytes zero h = rw (end_zero file)
    names_bytes (suc j) h =
        names_bytes j (omega arith)
        ∙ rw (
          name_at_lem j h,
          append_assoc (name_records (names_of file k) j) (name_record (name_in file j))
              (drop (name_end file (suc j)) file),
        )
        (ap (λ (l : List ℕ). name_records (names_of file k) j ++ l) (name_spelt file j (name j h)))

    rows_bytes :
        (r : ℕ) →
        r ≤ n →
        drop (place file k 0) file
        ≡ row_records k (width_in file k) (times_of file k n) (states_of file k n) r ++ drop (place file k r) file
    unfolding row_records
    rows_bytes zero h = refl
    rows_bytes (suc r) h =
        rows_bytes r (omega arith)
        ∙ rw (
          time_of_times file k n rows n r h,
          codes_of_states file k n rows n r (omega arith) h,
          append_assoc
              (row_records k (width_in file k) (times_of file k n) (states_of file k n) r)
              (row_record (width_in file k r) (time_in file k r) (codes_in file k r))
              (drop (place file k (suc r)) file),
        )
        (ap (λ (l : List ℕ). row_records k (width_in file k) (times_of file k n) (states_of file k n) r ++ l)
        (rw (add-one r) at (row_spelt file k r (row r h) bytes)))

    pub accepted_bytes : file ≡ file_in (width_in file k) (names_of file k) (times_of file k n) (states_of file k n) n
    unfolding file_in
    accepted_bytes =
        names_bytes k (omega arith)
        ∙ rw (counted, ← place_zero file k)
        (ap (λ (l : List ℕ). name_records (names_of file k) k ++ l)
        (rows_bytes n (omega arith)
        ∙ ap (λ (l : List ℕ). row_records k (width_in file k) (times_of file k n) (states_of file k n) n ++ l)
        (end_spelt file k n ends bytes)))
