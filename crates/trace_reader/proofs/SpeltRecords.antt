-- A good record, byte for byte: what stands where it starts is the record of what it holds, and then the rest.
--   name_spelt, row_spelt, end_spelt   the three kinds of records
use mathlib.Core.Path.{◌≡◌, sym, ap, ◌∙◌}
use mathlib.Core.List.{List, [], ◌∷◌, ◌++◌, append_assoc, append-nil}
use Prim.Native.Nat.{ℕ, suc, ◌+◌, ◌≤◌, ◌<◌}
use native.Mathlib.Omega.{arith}
use lib.ListN.{length, get_or, take, drop, length-drop, take-append-drop, drop_of_length-le}
use lib.Seq.{drop-cons, drop-drop, length-take-le}
use Rattle.trace_format.specs.Format.{bytes_of, row_letter, name_record, row_record, end_record}
use Rattle.trace_format.specs.Records.{number_at, place, name_end, name_in, width_in, time_in, codes_in}
use Rattle.trace_format.proofs.MarkBytes.{marks_name, marks_row, marks_end}
use Rattle.trace_format.proofs.Numbers.{number_spelt}
use Rattle.record_checks.proofs.NameWalk.{end_suc}
use Rattle.record_checks.proofs.CursorSteps.{place_zero, place_row}
use Rattle.record_checks.proofs.GoodRecords.{NameFacts, RowFacts, EndFacts}

-- the bytes at a place, one after the other
module _ (file : List ℕ) where
  next : (p i : ℕ) → p + i < length file → drop (p + i) file ≡ get_or file (p + i) 0 ∷ drop (p + suc i) file
  next p i h =
      let e : suc (p + i) ≡ p + suc i = omega arith in
      drop-cons file (p + i) 0 h ∙ ap (λ (x : ℕ). get_or file (p + i) 0 ∷ drop x file) e

  split : (p n : ℕ) → drop p file ≡ take n (drop p file) ++ drop (p + n) file
  split p n = sym (take-append-drop n (drop p file)) ∙ ap (λ (l : List ℕ). take n (drop p file) ++ l)
      (drop-drop n p file)

  two : (p : ℕ) → p + 2 ≤ length file
      → drop p file ≡ get_or file p 0 ∷ get_or file (p + 1) 0 ∷ drop (p + 2) file
  two p h =
      let e : p + 0 ≡ p = omega arith in
      rw e at (next p 0 (omega arith)) ∙ ap (λ (l : List ℕ). get_or file p 0 ∷ l) (next p 1 (omega arith))

  pub name_spelt :
      (k : ℕ) →
      NameFacts file k →
      drop (name_end file k) file ≡ name_record (name_in file k) ++ drop (name_end file (suc k)) file
  unfolding name_record name_in
  name_spelt k f =
      let p : ℕ = name_end file k in
      let n : ℕ = get_or file (name_end file k + 2) 0 in
      let fits : name_end file k + 3 + n ≤ length file = rw (place_zero file k) at f.fits in
      let m = marks_name _ _ (rw (place_zero file k) at f.mark) in
      let size : length (take n (drop (p + 3) file)) ≡ n =
      length-take-le n (drop (p + 3) file) (rw length-drop (omega arith))
      in
      two p (omega arith)
      ∙ rw (m.0, m.1, end_suc file k, size)
      (ap (λ (l : List ℕ). 78 ∷ 77 ∷ l)
      (next p 2 (omega arith) ∙ ap (λ (l : List ℕ). n ∷ l) (split (p + 3) n)))

  row_bytes :
      (p w k : ℕ) →
      get_or file p 0 ≡ 82 →
      get_or file (p + 1) 0 ≡ row_letter w →
      p + 2 + w + k ≤ length file →
      ((i : ℕ) → get_or file i 0 < 256) →
      drop p file
      ≡ 82
      ∷ row_letter w
      ∷ ((bytes_of w (number_at w file (p + 2)) ++ take k (drop (p + 2 + w) file)) ++ drop (p + 2 + w + k) file)
  row_bytes p w k first second fits bytes =
      two p (omega arith)
      ∙ rw (
        first,
        second,
        append_assoc (bytes_of w (number_at w file (p + 2))) (take k (drop (p + 2 + w) file))
            (drop (p + 2 + w + k) file),
      )
      (ap (λ (l : List ℕ). 82 ∷ row_letter w ∷ l)
      (number_spelt file bytes w (p + 2) (omega arith)
      ∙ ap (λ (l : List ℕ). bytes_of w (number_at w file (p + 2)) ++ l) (split (p + 2 + w) k)))

  pub row_spelt :
      (k r : ℕ) →
      RowFacts file k r →
      ((i : ℕ) → get_or file i 0 < 256) →
      drop (place file k r) file
      ≡ row_record (width_in file k r) (time_in file k r) (codes_in file k r) ++ drop (place file k (r + 1)) file
  unfolding row_record time_in codes_in
  row_spelt k r f bytes =
      let m = marks_row _ _ f.mark in
      rw (place_row file k r) (row_bytes (place file k r) (width_in file k r) k m.0 m.1 f.fits bytes)

  pub end_spelt :
      (k r : ℕ) →
      EndFacts file k r →
      ((i : ℕ) → get_or file i 0 < 256) →
      drop (place file k r) file ≡ end_record r
  unfolding end_record
  end_spelt k r f bytes =
      let p : ℕ = place file k r in
      let m = marks_end _ _ f.mark in
      let l : p + 6 ≡ length file = f.last in
      let e : p + 2 + 4 ≡ p + 6 = omega arith in
      let none : drop (p + 6) file ≡ [] = drop_of_length-le file {i = p + 6} (omega arith) in
      two p (omega arith)
      ∙ rw (m.0, m.1)
      (ap (λ (l : List ℕ). 69 ∷ 78 ∷ l)
      (rw (e, none, f.counted) at (number_spelt file bytes 4 (p + 2) (omega arith)) ∙ append-nil (bytes_of 4 r)))
