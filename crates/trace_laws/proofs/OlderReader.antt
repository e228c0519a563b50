-- The reader of the release before `RL`, over the two definitions of what reading comes to.
--   Free             a file in which the reader meets no `RL`
--   accepted_then, accepted_now    such a file was accepted exactly when it is accepted now
--   times_then, states_then        and held the same times and states (names are read as before)
--   refused_then, refused_now      and it was refused exactly when it is refused now, with the same number and place
--   long_refused     the first `RL` was refused with 11 at its mark, if nothing before it is wrong
use mathlib.Core.Path.{◌≡◌, refl, sym, ap, subst, ◌∙◌}
use mathlib.Core.List.{List}
use mathlib.Core.Logic.{◌⊎◌, inl, inr, ⊎_elim}
use Prim.Native.Nat.{ℕ, zero, suc, ◌+◌, ◌<◌, ◌≤◌}
use native.Mathlib.Omega.{arith}
use lib.ListN.{length, get_or, get_or-eq_default}
use Rattle.basics.proofs.Bools.{below?}
use Rattle.alf.specs.Refusals.{Order, RefusedWith, Passed}
use Rattle.trace_format.specs.declared.Mark.{Mark}
use Rattle.trace_format.specs.declared.Mark.TheVariants.{Name, Row, End, Other}
use Rattle.trace_format.specs.Format.{row_letter}
use Rattle.trace_format.specs.Records.{Due, time_bytes, place, mark_here, width_in, Good, GoodRow, Before}
use Rattle.trace_format.proofs.MarkBytes.{row_kind, marks_row}
use Rattle.trace_reader.specs.Reading.{Accepted, FileRefused}
use Rattle.record_copies.specs.HeldLists.{times_of, states_of}
use Rattle.trace_laws.specs.Older as Older
use Rattle.trace_laws.proofs.OlderRecords.{Short, place_older, time_older, codes_older, here_older, order_older}
use Rattle.trace_laws.proofs.OlderRecords.{mark_known, mark_long}

-- the reader meets no `RL`
abbrev pub Free : List ℕ → Type 0
Free file = (k r : ℕ) → Before file k r → mark_here file k r ≡ Row 8 → ⊥

not_long : {m : Mark} {w : ℕ} → m ≡ Row w → w ≡ 4 → m ≡ Row 8 → ⊥
not_long e f g = let u : Row 4 ≡ Row 8 = ap Row (sym f) ∙ sym e ∙ g in let z : ◌≡◌ {A = ℕ} 4 8 = cc in omega arith

none : (file : List ℕ) (k : ℕ) → Short file k 0
none file k i h = absurd (omega arith)

-- a good record, now and then
module _ {m : Mark} {file : List ℕ} {k r : ℕ} (s : Short file k r) (n : m ≡ Row 8 → ⊥) where
  good_then : Good m file k r → Older.Good m file k r
  good_then g =
      let free : mark_here file k r ≡ Row 8 → ⊥ = λ e. n (sym g.mark ∙ e) in
      record {
        mark = here_older file k r s free ∙ g.mark;
        passed = subst (λ (o : Order). Passed o) (sym (order_older file k r s free)) g.passed;
      }

  good_now : (m ≡ Other → ⊥) → Older.Good m file k r → Good m file k r
  good_now known g =
      let e : mark_here file k r ≡ m = mark_known _ _ (rw (place_older file k r s) at g.mark) known in
      let free : mark_here file k r ≡ Row 8 → ⊥ = λ f. n (sym e ∙ f) in
      record {
        mark = e;
        passed = subst (λ (o : Order). Passed o) (order_older file k r s free) g.passed;
      }

name_kept : Name ≡ Row 8 → ⊥
name_kept e = let z : ◌≡◌ {A = ℕ} 0 1 = cc in omega arith

end_kept : End ≡ Row 8 → ⊥
end_kept e = let z : ◌≡◌ {A = ℕ} 0 1 = cc in omega arith

row_kept : Row 4 ≡ Row 8 → ⊥
row_kept e = let z : ◌≡◌ {A = ℕ} 4 8 = cc in omega arith

name_known : Name ≡ Other → ⊥
name_known e = let z : ◌≡◌ {A = ℕ} 0 1 = cc in omega arith

end_known : End ≡ Other → ⊥
end_known e = let z : ◌≡◌ {A = ℕ} 0 1 = cc in omega arith

row_known : Row 4 ≡ Other → ⊥
row_known e = let z : ◌≡◌ {A = ℕ} 0 1 = cc in omega arith

earlier : {file : List ℕ} {k r : ℕ} → Before file k r → (i : ℕ) → i ≤ r → Before file k i
earlier b i h = record { names = b.names; rows = λ j l. b.rows j (omega arith) }

-- the rows before are all marked `RW`
short : {file : List ℕ} → Free file → {k r : ℕ} → Before file k r → Short file k r
short free {k} {r} b i h =
    let g = b.rows i h in
    ⊎_elim (λ e. e) (λ e. absurd (free k i (earlier b i (omega arith)) (g.mark ∙ ap Row e))) (row_kind _ _ g.mark)

row_then : {file : List ℕ} {k r : ℕ} → Short file k r → width_in file k r ≡ 4 → GoodRow file k r
    → Older.Good (Row 4) file k r
row_then {file} {k} {r} s w g =
    good_then s row_kept (record { mark = g.mark ∙ ap Row w; passed = g.passed })

pub before_then : {file : List ℕ} → Free file → {k r : ℕ} → Before file k r → Older.Before file k r
before_then {file} free b =
    let s = short free b in
    record {
      names = λ j h. good_then (none file j) name_kept (b.names j h);
      rows = λ i h. row_then (λ j l. s j (omega arith)) (s i h) (b.rows i h);
    }

-- what the older release took for good rows is marked `RW`
short_then : {file : List ℕ} {k : ℕ} (r : ℕ) → ((i : ℕ) → i < r → Older.Good (Row 4) file k i) → Short file k r
short_then zero g i h = absurd (omega arith)
short_then {file} {k} (suc r) g i h = go (below? i r) (short_then r (λ j l. g j (omega arith)))
  where
    go : (i < r) ⊎ (r ≤ i) → Short file k r → width_in file k i ≡ 4
    go (inl l) s = s i l
    go (inr l) s =
        let e : i ≡ r = omega arith in
        rw e (unfold time_bytes in ap time_bytes (good_now s row_kept row_known (g r (omega arith))).mark)

pub before_now : {file : List ℕ} {k r : ℕ} → Older.Before file k r → Before file k r
before_now {file} {k} {r} b =
    let s = short_then r b.rows in
    record {
      names = λ j h. good_now (none file j) name_kept name_known (b.names j h);
      rows =
          λ i h.
          let g = good_now (λ j l. s j (omega arith)) row_kept row_known (b.rows i h) in
          record { mark = g.mark ∙ ap Row (sym (s i h)); passed = g.passed };
    }

module _ {file : List ℕ} (free : Free file) where
  pub accepted_then : {k n : ℕ} → Accepted file k n → Older.Accepted file k n
  accepted_then a =
      record { before = before_then free a.before; ends = good_then (short free a.before) end_kept a.ends }

  pub accepted_now : {k n : ℕ} → Older.Accepted file k n → Accepted file k n
  accepted_now {k} {n} a =
      record {
        before = before_now a.before;
        ends = good_now (short_then n a.before.rows) end_kept end_known a.ends;
      }

  pub refused_then : {number p : ℕ} → FileRefused file number p → Older.FileRefused file number p
  refused_then {number} {p} f =
      record {
        names = f.names;
        rows = f.rows;
        before = before_then free f.before;
        refused =
            subst (λ (o : Order). RefusedWith o number p)
            (sym (order_older file f.names f.rows (short free f.before)
            (free f.names f.rows f.before))) f.refused;
      }

  pub refused_now : {number p : ℕ} → Older.FileRefused file number p → FileRefused file number p
  refused_now {number} {p} f =
      let b : Before file f.names f.rows = before_now f.before in
      record {
        names = f.names;
        rows = f.rows;
        before = b;
        refused =
            subst (λ (o : Order). RefusedWith o number p)
            (order_older file f.names f.rows (short free b) (free f.names f.rows b)) f.refused;
      }

  -- and it held the same
  module _ {k n : ℕ} (b : Before file k n) where
    s : Short file k n
    s = short free b

    pub times_then : (r : ℕ) → r ≤ n → Older.times_of file k r ≡ times_of file k r
    unfolding Older.times_of times_of
    times_then zero h = refl
    times_then (suc r) h =
        rw (times_then r (omega arith), time_older file k r (λ j l. s j (omega arith)) (s r h))

    pub states_then : (r : ℕ) → r ≤ n → Older.states_of file k r ≡ states_of file k r
    unfolding Older.states_of states_of
    states_then zero h = refl
    states_then (suc r) h =
        rw (states_then r (omega arith), codes_older file k r (λ j l. s j (omega arith)) (s r h))

-- the first `RL`
module _ {file : List ℕ} {k r : ℕ} (before : Before file k r) (first : Short file k r)
    (long : mark_here file k r ≡ Row 8) where
  whole_mark : place file k r + 2 ≤ length file
  unfolding row_letter
  whole_mark = go (below? (place file k r + 1) (length file))
    where
      go : (place file k r + 1 < length file) ⊎ (length file ≤ place file k r + 1) → place file k r + 2 ≤ length file
      go (inl h) = omega arith
      go (inr h) =
          let z : get_or file (place file k r + 1) 0 ≡ 0 = get_or-eq_default file 0 {n = place file k r + 1} h in
          absurd (omega (arith, z, (marks_row _ _ long).1))

  rows_before : Older.Before file k r
  rows_before =
      record {
        names = λ j h. good_then (none file j) name_kept (before.names j h);
        rows = λ i h. row_then (λ j l. first j (omega arith)) (first i h) (before.rows i h);
      }

  pub long_refused : Older.FileRefused file 11 (place file k r)
  unfolding RefusedWith Due
  long_refused =
      let p : Older.place file k r ≡ place file k r = place_older file k r first in
      let m : Older.mark_here file k r ≡ Other = rw p (mark_long _ _ long) in
      record {
        names = k;
        rows = r;
        before = rows_before;
        refused =
            rw (m, p)
            (inr (
              (λ q a. omega (arith, a.given, whole_mark)),
              inl (refl, record { given = λ d. d; there = refl }),
            ));
      }
