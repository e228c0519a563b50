-- The bytes of a trace are accepted, whatever width that fits each time has, and what they hold is the trace.
-- Main names: trace_accepted, held_names, held_times_lem, held_states, held_width.
use mathlib.Core.Path.{◌≡◌, refl, sym, ap, ◌∙◌}
use mathlib.Core.List.{List, ◌++◌, append_assoc, append-nil}
use Prim.Native.Nat.{ℕ, zero, suc, ◌+◌, ◌-◌, ◌*◌, ◌^◌, ◌≤◌, ◌<◌}
use native.Mathlib.Omega.{arith}
use native.Mathlib.Nat.{zero-mul}
use native.Mathlib.Numerals.{add-one}
use lib.ListN.{length, get_or, take, drop, length-append}
use lib.Seq.{take-add, take_all, take-suc, get_or-take, get_or-drop}
use Rattle.alf.specs.Names.{names_in, slot, name_at}
use Rattle.trace_format.specs.Format.{name_record, row_record, end_record, name_records, row_records, codes_of}
use Rattle.trace_format.specs.Format.{Fitting, file_in, Trace}
use Rattle.trace_format.specs.declared.Mark.TheVariants.{Row}
use Rattle.trace_format.proofs.Numbers.{bytes_length}
use Rattle.trace_format.specs.Records.{name_end, place, mark_at_lem, time_bytes, name_in, width_in, time_in, codes_in}
use Rattle.trace_reader.specs.Reading.{Accepted}
use Rattle.record_copies.specs.HeldLists.{names_of, times_of, states_of}
use Rattle.record_checks.proofs.CursorSteps.{place_zero}
use Rattle.trace_format.proofs.RowByRow.{next_to, room_for}
use Rattle.record_checks.proofs.GoodRecords.{NameFacts, RowFacts, EndFacts, name_good, row_good, end_good}
use Rattle.trace_writer.proofs.Putting.{names_size, codes_all}
use Rattle.trace_laws.proofs.RecordsReadBack.{Parted, split, NameRead, name_read}
use Rattle.trace_laws.proofs.RecordsReadBack.{RowRead, row_read, EndRead, end_read}

module _ {names times states : List ℕ} {n : ℕ} (t : Trace names times states n) (widths : ℕ → ℕ)
    (fitting : Fitting widths times n) where
  abbrev file : List ℕ
  file = file_in widths names times states n

  -- the names
  name_parted : (j : ℕ) → j < names_in names → Parted (file_in widths names times states n) (name_records names j)
      (name_record (name_at names j))
  unfolding file_in name_records
  name_parted j h = split (name_records names) (λ i. name_record (name_at names i)) (λ i. refl) j (names_in names) h _

  name_there : (j : ℕ) → j < names_in names
      → NameRead (file_in widths names times states n) (length (name_records names j))
      (name_at names j)
  name_there j h =
      let p = name_parted j h in rw p.is (name_read (name_records names j) (name_at names j) p.rest)

  name_place : (j : ℕ) → j ≤ names_in names
      → name_end (file_in widths names times states n) j ≡ length (name_records names j)
  unfolding name_end name_records
  name_place zero h = refl
  name_place (suc j) h =
      let e : name_end (file_in widths names times states n) j ≡ length (name_records names j) =
      name_place j (omega arith) in
      rw (e, (name_there j h).size) (sym (rw add-one at (names_size names j)))

  name_held : (j : ℕ) → j < names_in names → name_in (file_in widths names times states n) j ≡ name_at names j
  unfolding name_in
  name_held j h = rw (name_place j (omega arith), (name_there j h).size) (name_there j h).name

  name_facts : (j : ℕ) → j < names_in names → NameFacts (file_in widths names times states n) j
  name_facts j h =
      let e : place (file_in widths names times states n) j 0 ≡ length (name_records names j) =
      place_zero (file_in widths names times states n) j ∙ name_place j (omega arith)
      in
      record {
        mark = rw e (name_there j h).mark;
        few = omega (arith, t.slots.few);
        fits = rw (e, (name_there j h).size) (name_there j h).fits;
        good =
            record {
              named = rw (name_held j h) (t.good j h).named;
              new =
                  λ i l f.
                  let li : i < names_in names = omega arith in
                  (t.good j h).new i l (sym (name_held i li) ∙ f ∙ name_held j h);
            };
      }

  -- the rows
  all : length states ≡ n * names_in names
  all = t.lists.states_all

  abbrev front : ℕ → List ℕ
  front r = name_records names (names_in names) ++ row_records (names_in names) widths times states r

  row_parted :
      (r : ℕ) →
      r < n →
      Parted file (front r) (row_record (widths r) (get_or times r 0) (codes_of (names_in names) states r))
  unfolding file_in row_records
  row_parted r h =
      let p =
      split (row_records (names_in names) widths times states)
      (λ i. row_record (widths i) (get_or times i 0) (codes_of (names_in names) states i)) (λ i. refl) r n h (end_record n)
      in
      record {
        rest = p.rest;
        is =
            ap (λ (l : List ℕ). name_records names (names_in names) ++ l) p.is
            ∙ sym
            (append_assoc (name_records names (names_in names)) (row_records (names_in names) widths times states r) _);
      }

  row_behind : (r : ℕ) → r < n
      → RowRead file (length (front r)) (widths r) (get_or times r 0) (codes_of (names_in names) states r)
  row_behind r h =
      let p = row_parted r h in
      rw p.is
      (row_read (front r) (widths r) (get_or times r 0) (codes_of (names_in names) states r) p.rest (fitting r h))

  front_next : (r : ℕ) → r < n → length (front (suc r)) ≡ length (front r) + 2 + widths r + names_in names
  unfolding row_records row_record
  front_next r h =
      rw (
        length-append,
        length-append,
        length-append,
        length-append,
        bytes_length (widths r) (get_or times r 0),
        codes_all (names_in names) widths times states n all r h,
      )
      (omega arith)

  front_length : (r : ℕ) → r ≤ n → length (front r) ≡ place file (names_in names) r
  unfolding place row_records time_bytes
  front_length zero h = rw (append-nil (name_records names (names_in names)), name_place (names_in names) (omega arith))
  front_length (suc r) h =
      let e : length (front r) ≡ place file (names_in names) r = front_length r (omega arith) in
      let m : time_bytes (mark_at_lem file (place file (names_in names) r)) ≡ widths r =
      ap time_bytes (rw e at (row_behind r h).mark) in
      front_next r h ∙ rw (m, e)

  row_there : (r : ℕ) → r < n
      → RowRead file (place file (names_in names) r) (widths r) (get_or times r 0) (codes_of (names_in names) states r)
  row_there r h = rw (← front_length r (omega arith)) (row_behind r h)

  pub held_width : (r : ℕ) → r < n → width_in file (names_in names) r ≡ widths r
  unfolding time_bytes
  held_width r h = ap time_bytes (row_there r h).mark

  pub time_held : (r : ℕ) → r < n → time_in (file_in widths names times states n) (names_in names) r ≡ get_or times r 0
  unfolding time_in
  time_held r h = rw (held_width r h) (row_there r h).time

  pub codes_held : (r : ℕ) → r < n → codes_in (file_in widths names times states n) (names_in names) r ≡ codes_of
      (names_in names) states r
  unfolding codes_in
  codes_held r h =
      rw (held_width r h) (rw (codes_all (names_in names) widths times states n all r h) at (row_there r h).held)

  code_in : (r i : ℕ) → r < n → i < names_in names
      → get_or file (place file (names_in names) r + 2 + width_in file (names_in names) r + i) 0
      ≡ get_or states (r * names_in names + i) 0
  unfolding codes_in codes_of
  code_in r i h l =
      let p : ℕ = place file (names_in names) r + 2 + width_in file (names_in names) r in
      sym (get_or-take (names_in names) (drop p file) i 0 l ∙ get_or-drop p file i 0)
      ∙ ap (λ (x : List ℕ). get_or x i 0) (codes_held r h)
      ∙ get_or-take (names_in names) (drop (r * names_in names) states) i 0 l
      ∙ get_or-drop (r * names_in names) states i 0

  row_facts : (r : ℕ) → r < n → RowFacts file (names_in names) r
  row_facts r h =
      record {
        mark = (row_there r h).mark ∙ ap Row (sym (held_width r h));
        named = t.slots.some;
        few = omega (arith, t.lists.few);
        fits =
            omega (
              arith,
              held_width r h,
              codes_all (names_in names) widths times states n all r h,
              (row_there r h).fits,
            );
        above =
            λ l.
            let e : suc (r - 1) ≡ r = omega arith in
            rw (time_held r h, time_held (r - 1) (omega arith)) (rw e at (t.rising (r - 1) (omega arith)));
        codes =
            λ p b.
            let from : ℕ = place file (names_in names) r + 2 + width_in file (names_in names) r in
            let i : ℕ = p - from in
            let e : from + i ≡ p = omega (arith, b.from) in
            let l : i < names_in names = omega (arith, b.from, b.to) in
            let x : get_or file p 0 ≡ get_or states (r * names_in names + i) 0 = rw e at (code_in r i h l) in
            omega (
              arith,
              x,
              b.above,
              t.codes (r * names_in names + i)
                  (omega (arith, room_for r n (names_in names) h, all)),
            );
      }

  whole : file ≡ front n ++ end_record n
  unfolding file_in
  whole =
      sym
      (append_assoc (name_records names (names_in names)) (row_records (names_in names) widths times states n)
      (end_record n))

  end_facts : EndFacts file (names_in names) n
  end_facts =
      let small : n < 2 ^ 32 = omega (arith, t.lists.few) in
      let e : EndRead file (place file (names_in names) n) n =
      rw (← front_length n (omega arith)) (rw whole (end_read (front n) n small))
      in record { mark = e.mark; some = t.lists.some; last = e.last; counted = e.counted }

  pub trace_accepted : Accepted (file_in widths names times states n) (names_in names) n
  trace_accepted =
      record {
        before =
            record {
              names = λ j h. name_good (file_in widths names times states n) j (name_facts j h);
              rows = λ r h. row_good (file_in widths names times states n) (names_in names) r (row_facts r h);
            };
        ends = end_good (file_in widths names times states n) (names_in names) n end_facts;
      }

  -- what they hold
  names_held : (j : ℕ) → j ≤ names_in names → names_of (file_in widths names times states n) j ≡ take (j * 32) names
  unfolding names_of slot
  names_held zero h = refl
  names_held (suc j) h =
      let e : suc j * 32 ≡ j * 32 + 32 = omega arith in
      rw (names_held j (omega arith), name_held j h, e, take-add (j * 32) 32 names)
      (ap (λ (l : List ℕ). take (j * 32) names ++ l) (sym (t.good j h).filled))

  times_held : (r : ℕ) → r ≤ n → times_of (file_in widths names times states n) (names_in names) r ≡ take r times
  unfolding times_of
  times_held zero h = refl
  times_held (suc r) h =
      rw (times_held r (omega arith), time_held r h) (sym (take-suc times r 0 (omega (arith, t.lists.times_all))))

  states_held : (r : ℕ) → r ≤ n
      → states_of (file_in widths names times states n) (names_in names) r ≡ take (r * names_in names) states
  unfolding states_of codes_of
  states_held zero h = rw zero-mul
  states_held (suc r) h =
      let k = names_in names in
      let e : suc r * k ≡ r * k + k = sym (rw add-one at (next_to r k)) in
      rw (states_held r (omega arith), codes_held r h, e) (sym (take-add (r * names_in names) (names_in names) states))

  pub held_names : names_of (file_in widths names times states n) (names_in names) ≡ names
  held_names =
      names_held (names_in names) (omega arith)
      ∙ take_all (names_in names * 32) names (omega (arith, t.slots.whole))

  pub held_times_lem : times_of (file_in widths names times states n) (names_in names) n ≡ times
  held_times_lem = times_held n (omega arith) ∙ take_all n times (omega (arith, t.lists.times_all))

  pub held_states : states_of (file_in widths names times states n) (names_in names) n ≡ states
  held_states = states_held n (omega arith) ∙ take_all (n * names_in names) states (omega (arith, all))
