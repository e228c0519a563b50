-- A turn of each copying loop, and the lengths of what a file holds.
--   slot_put                                       a name and zeros behind it are its slot
--   name_there, name_fits, names_put               a name stands in the file, its slot has room, it is copied
--   row_marked, width_is                           a row's mark stands in the file, and the width read there
--   row_there, row_next                            a row stands in the file, the next one
--   time_fits, times_put                           its time has room, it is copied
--   codes_put, codes_fit, states_put               codes as they are cut out; they have room, they are copied
--   slot_length, names_length, times_length, codes_length, states_length
use mathlib.Core.Path.{◌≡◌, refl, sym, ap, ◌∙◌}
use mathlib.Core.List.{List}
use Prim.Native.Nat.{ℕ, zero, suc, ◌+◌, ◌-◌, ◌*◌, ◌≤◌, ◌<◌}
use native.Mathlib.Omega.{arith}
use native.Mathlib.Nat.{add-mul, one-mul, zero-mul}
use native.Mathlib.Numerals.{add-one}
use lib.ListN.{length, get_or, take, drop, replicate, length-append, length-drop, length-take, length-replicate}
use lib.Dec.{ltb}
use borrow.Author.Tests.{ltb-true, ltb-false}
use mathlib.Core.Bool.{Bool, true, false}
use lib.Seq.{length-take-le}
use Rattle.basics.specs.Memory.{Put}
use Rattle.basics.proofs.PartByPart.{put_then, put_length}
use Rattle.alf.specs.Names.{slot_of, is_name}
use Rattle.names.proofs.Names.{name_long}
use Rattle.names.proofs.Slots.{slot_of_lem}
use Rattle.trace_format.specs.declared.Mark.TheVariants.{Name}
use Rattle.trace_format.proofs.RowByRow.{room_for}
use Rattle.trace_format.specs.Records.{name_end, place, mark_at_lem, time_bytes}
use Rattle.trace_format.specs.Records.{name_in, width_in, time_in, codes_in, Good, GoodRow}
use Rattle.record_copies.specs.HeldLists.{names_of, times_of, states_of, SlotFits, TimeFits, TimeDone, CodesFit}
use Rattle.trace_format.specs.Parts.{ByteIs, TimeThere, RowMarked, WidthIs}
use Rattle.record_checks.proofs.GoodRecords.{good_name, good_row}
use Rattle.record_checks.proofs.CursorSteps.{place_zero, place_row}
use Rattle.record_checks.proofs.NameWalk.{name_is}

pub slot_length : (name : List ℕ) → length (slot_of name) ≡ 32
unfolding slot_of
slot_length name = rw (length-take, length-append, length-replicate {A = ℕ} 32 0) (omega arith)

-- a name, and zeros behind it
pub slot_put : {name d d₁ d₂ : List ℕ} {at p r : ℕ} → length name ≤ 32 → Put d at name d₁ p
    → Put d₁ p (replicate (32 - length name) 0) d₂ r
    → Put d at (slot_of name) d₂ r
slot_put {name} h p q = rw (slot_of_lem name h) (put_then p q)

-- a name has at most 32 bytes
pub name_short : (s : List ℕ) → is_name s ≡ true → length s ≤ 32
name_short s e = go (ltb 32 (length s)) refl
  where
    go : (b : Bool) → ltb 32 (length s) ≡ b → length s ≤ 32
    go true l =
        let t : true ≡ false = sym e ∙ sym (name_long s (ltb-true 32 (length s) l)) in
        let z : ◌≡◌ {A = ℕ} 0 1 = cc in
        absurd (omega arith)
    go false l = ltb-false 32 (length s) l

-- names
module _ (file : List ℕ) where
  pub names_length : (k : ℕ) → length (names_of file k) ≡ k * 32
  unfolding names_of
  names_length zero = refl
  names_length (suc k) =
      rw (length-append, names_length k, slot_length (name_in file k)) (omega arith)

  module _ {k : ℕ} (names : (j : ℕ) → j < k → Good Name file j 0) (i : ℕ) {q : ℕ} (h : i < k)
      (there : q ≡ name_end file i) where
    pub name_there : q + 3 + get_or file (q + 2) 0 ≤ length file
    name_there = rw (there, ← place_zero file i) (good_name file i (names i h)).fits

    module _ {n : ℕ} (byte : ByteIs (get_or file (q + 2) 0) n) where
      pub name_fits : {out₀ out : List ℕ} {at : ℕ} → Put out₀ 0 (names_of file i) out at → k * 32 ≤ length out₀
          → SlotFits (take (q + 3 + n - (q + 3)) (drop (q + 3) file)) out at
      name_fits p room =
          record {
            few =
                rw (name_is file i there byte)
                (name_short (name_in file i) (good_name file i (names i h)).good.named);
            room = omega (arith, names_length i, p.next, put_length p);
          }

      pub names_put : {out₀ out out' : List ℕ} {at at' : ℕ} → Put out₀ 0 (names_of file i) out at
          → Put out at (slot_of (take (q + 3 + n - (q + 3)) (drop (q + 3) file))) out' at'
          → Put out₀ 0 (names_of file (i + 1)) out' at'
      unfolding names_of
      names_put p s = rw add-one (put_then p (rw (name_is file i there byte) at s))

-- k codes from a place on, cut out by where they end
pub codes_put : (file : List ℕ) (from k : ℕ) {out out' : List ℕ} {to to' : ℕ}
    → Put out to (take (from + k - from) (drop from file)) out' to'
    → Put out to (take k (drop from file)) out' to'
codes_put file from k h = let size : from + k - from ≡ k = omega arith in rw size at h

-- rows
module _ (file : List ℕ) (k n : ℕ) (rows : (r : ℕ) → r < n → GoodRow file k r) where
  pub row_marked : (r q : ℕ) → r < n → q ≡ place file k r → RowMarked file q
  row_marked r q h e =
      let f = good_row file k r (rows r h) in
      rw e (record { marked = omega (arith, f.fits); row = f.mark })

  -- the row where a copy stands, and the width that was read there
  module _ (r : ℕ) {q w : ℕ} (there : q ≡ place file k r) (width : WidthIs (time_bytes (mark_at_lem file q)) w) where
    pub width_is : w ≡ width_in file k r
    width_is = width.is ∙ ap (λ (p : ℕ). time_bytes (mark_at_lem file p)) there

    pub row_there : r < n → q + 2 + w + k ≤ length file
    row_there h = omega (arith, there, width_is, (good_row file k r (rows r h)).fits)

    pub time_there : r < n → TimeThere w file (q + 2)
    time_there h = record { kind = width.kind; whole = omega (arith, row_there h) }

    pub row_next : q + 2 + w + k ≡ place file k (r + 1)
    row_next = omega (arith, place_row file k r, there, width_is)

    pub time_fits : {out₀ out : List ℕ} → Put out₀ 0 (times_of file k r) out r → r < n → n * 1 ≤ length out₀
        → TimeFits file k q w out r
    time_fits p h room =
        record { time = time_there h; whole = row_there h; room = omega (arith, put_length p) }

    pub times_put : {out₀ out out' : List ℕ} {next : ℕ} → Put out₀ 0 (times_of file k r) out r
        → TimeDone file k q w out r out' next
        → (next ≡ place file k (r + 1)) × Put out₀ 0 (times_of file k (r + 1)) out' (r + 1)
    unfolding times_of time_in
    times_put p d = (
      d.there ∙ row_next,
      rw add-one (put_then p (record { bytes = d.time ∙ rw (there, width_is); next = omega arith })),
    )

  pub times_length : (r : ℕ) → length (times_of file k r) ≡ r
  unfolding times_of
  times_length zero = refl
  times_length (suc r) = rw (length-append, times_length r) (omega arith)

  pub codes_length : (r : ℕ) → r < n → length (codes_in file k r) ≡ k
  unfolding codes_in
  codes_length r h =
      length-take-le k (drop (place file k r + 2 + width_in file k r) file)
      (rw length-drop (omega (arith, (good_row file k r (rows r h)).fits)))

  pub states_length : (r : ℕ) → r ≤ n → length (states_of file k r) ≡ r * k
  unfolding states_of
  states_length zero h = sym (zero-mul k)
  states_length (suc r) h =
      rw (length-append, states_length r (omega arith), codes_length r h, ← add-one r, add-mul r 1 k, one-mul)

  module _ (r : ℕ) {q w to : ℕ} {out₀ out : List ℕ} (there : q ≡ place file k r)
      (width : WidthIs (time_bytes (mark_at_lem file q)) w) (p : Put out₀ 0 (states_of file k r) out to) where
    pub codes_fit : r < n → n * k ≤ length out₀ → CodesFit file k q w out to
    codes_fit h room =
        record {
          whole = row_there r there width h;
          room = omega (arith, states_length r (omega arith), room_for r n k h, p.next, put_length p);
        }

    pub states_put : {out' : List ℕ} {to' : ℕ} → Put out to (take k (drop (q + 2 + w) file)) out' to'
        → Put out₀ 0 (states_of file k (r + 1)) out' to'
    unfolding states_of codes_in
    states_put h =
        let from : q + 2 + w ≡ place file k r + 2 + width_in file k r =
        omega (arith, there, width_is r there width)
        in rw add-one (put_then p (rw from at h))
