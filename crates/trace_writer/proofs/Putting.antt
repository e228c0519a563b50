-- A turn of each writing loop.
--   slot_name                          what the length of a slot's name tells
--   names_size, names_grow             the bytes of a name more
--   name_fits, names_put, names_none   there is room for a name more, it is written; none is
--   codes_all, rows_length             the codes of a row, the bytes of some rows
--   size_next, size_mono, size_grow    one row more
--   row_fits, rows_put, rows_none      there is room for a row more, it is written; none is
use mathlib.Core.Path.{◌≡◌, refl, ◌∙◌}
use mathlib.Core.Bool.{Bool, true, false}
use mathlib.Core.List.{List}
use mathlib.Core.Logic.{⊎_elim}
use Prim.Native.Nat.{ℕ, zero, suc, ◌+◌, ◌-◌, ◌*◌, ◌≤◌, ◌<◌}
use native.Mathlib.Omega.{arith}
use native.Mathlib.Numerals.{add-one}
use lib.Dec.{eqb}
use lib.ListN.{length, get_or, take, drop, length-append, length-drop, length-take}
use lib.Seq.{length-take-le}
use borrow.Author.Tests.{eqb-true, eqb-false}
use Rattle.alf.specs.Names.{name_at, slot}
use Rattle.names.specs.Check.{NameLength}
use Rattle.names.proofs.Slots.{slot_part, slot_length, name_part}
use Rattle.trace_format.specs.Format.{name_record, row_record, name_records, row_records, codes_of, fewest_of}
use Rattle.trace_format.proofs.Numbers.{bytes_length}
use Rattle.basics.specs.Memory.{Put}
use Rattle.basics.proofs.PartByPart.{put_none, put_then, put_length}
use Rattle.trace_writer.specs.Putting.{NamesSize, rows_size, RowsSize}
use Rattle.trace_format.specs.Parts.{FewestIs}
use Rattle.record_puts.specs.Fitting.{NameFits, RowFits}
use Rattle.trace_format.proofs.RowByRow.{room_for}

pub record SlotName (names : List ℕ) (i n : ℕ) : Type 0 where
  pub few : n ≤ 32
  pub name : take (i * 32 + n - i * 32) (drop (i * 32) names) ≡ name_at names i
  pub size : length (name_at names i) ≡ n

pub slot_name :
    (names : List ℕ) (i : ℕ) {n : ℕ} →
    i * 32 + 32 ≤ length names →
    NameLength (take (i * 32 + 32 - i * 32) (drop (i * 32) names)) n →
    SlotName names i n
slot_name names i {n} h p =
    let q : NameLength (slot names i) n = rw (slot_part names i) at p in
    let few : n ≤ 32 = omega (arith, q.within, slot_length names i h) in
    record {
      few = few;
      name = name_part names i n few ∙ q.name;
      size = rw (← q.name) (length-take-le n (slot names i) q.within);
    }

module _ (names : List ℕ) where
  pub names_size : (i : ℕ) → length (name_records names (i + 1)) ≡ length (name_records names i) + 3 + length
      (name_at names i)
  unfolding name_records name_record
  names_size i = rw (add-one, length-append) (omega arith)

  pub names_mono : (i k : ℕ) → i ≤ k → length (name_records names i) ≤ length (name_records names k)
  names_mono i zero h = let e : i ≡ 0 = omega arith in rw e (omega arith)
  names_mono i (suc k) h = go (eqb i (suc k)) refl (names_mono i k)
    where
      go :
          (b : Bool) →
          eqb i (suc k) ≡ b →
          (i ≤ k → length (name_records names i) ≤ length (name_records names k)) →
          length (name_records names i) ≤ length (name_records names (suc k))
      go true e ih = rw (eqb-true i (suc k) e) (omega arith)
      go false e ih = omega (arith, ih (omega (arith, eqb-false i (suc k) e)), rw add-one at (names_size k))

module _ {names : List ℕ} {i n : ℕ} (s : SlotName names i n) where
  pub names_grow : {size : ℕ} → NamesSize names i size → NamesSize names (i + 1) (size + 3 + n)
  names_grow z =
      record {
        is = omega (arith, names_size names i, z.is, s.size);
        few = omega (arith, z.few, s.few);
      }

  module _ {at : ℕ} {out₀ out : List ℕ} (p : Put out₀ 0 (name_records names i) out at) where
    pub name_fits : {k : ℕ} → i < k → length (name_records names k) ≤ length out₀
        → NameFits (take (i * 32 + n - i * 32) (drop (i * 32) names)) out at
    name_fits {k} h l =
        let room : length (name_records names (i + 1)) ≤ length out =
        omega (arith, names_mono names (i + 1) k (omega arith), put_length p)
        in
        rw s.name
        (record {
          few = omega (arith, s.few, s.size);
          room = omega (arith, names_size names i, p.next);
        })

    pub names_put : {at' : ℕ} {out' : List ℕ}
        → Put out at (name_record (take (i * 32 + n - i * 32) (drop (i * 32) names))) out' at'
        → Put out₀ 0 (name_records names (i + 1)) out' at'
    unfolding name_records
    names_put q = rw add-one (put_then p (rw s.name at q))

pub names_none : (names out : List ℕ) → Put out 0 (name_records names 0) out 0
unfolding name_records
names_none names out = put_none

pub rows_none : (k : ℕ) (widths : ℕ → ℕ) (times states out : List ℕ) (at : ℕ)
    → Put out at (row_records k widths times states 0) out at
unfolding row_records
rows_none k widths times states out at = put_none

-- the size of some rows grows with them
module _ (k : ℕ) (widths : ℕ → ℕ) where
  pub size_next : (r : ℕ) → rows_size k widths (r + 1) ≡ rows_size k widths r + (2 + widths r + k)
  unfolding rows_size
  size_next r = rw (add-one r)

  pub size_mono : (r n : ℕ) → r ≤ n → rows_size k widths r ≤ rows_size k widths n
  size_mono r zero h = let e : r ≡ 0 = omega arith in rw e (omega arith)
  size_mono r (suc n) h = go (eqb r (suc n)) refl (size_mono r n)
    where
      go :
          (b : Bool) →
          eqb r (suc n) ≡ b →
          (r ≤ n → rows_size k widths r ≤ rows_size k widths n) →
          rows_size k widths r ≤ rows_size k widths (suc n)
      go true e ih = rw (eqb-true r (suc n) e) (omega arith)
      go false e ih =
          omega (arith, ih (omega (arith, eqb-false r (suc n) e)), rw (add-one n) at (size_next n))

pub size_none : (k : ℕ) (times : List ℕ) → RowsSize k times 0 0
unfolding rows_size
size_none k times = record { is = refl; few = omega arith }

pub size_grow : {k r size w : ℕ} (times : List ℕ) → k ≤ 32 → RowsSize k times r size → FewestIs (get_or times r 0) w
    → RowsSize k times (r + 1) (size + (2 + w + k))
size_grow {k} {r} {size} {w} times h z f =
    record {
      is = omega (arith, size_next k (fewest_of times) r, z.is, f.is);
      few = ⊎_elim (λ e. omega (arith, z.few)) (λ e. omega (arith, z.few)) f.kind;
    }

-- rows
module _ (k : ℕ) (widths : ℕ → ℕ) (times states : List ℕ) (n : ℕ) (all : length states ≡ n * k) where
  pub codes_all : (r : ℕ) → r < n → length (codes_of k states r) ≡ k
  unfolding codes_of
  codes_all r h =
      length-take-le k (drop (r * k) states) (rw length-drop (omega (arith, room_for r n k h, all)))

  pub rows_length : (r : ℕ) → r ≤ n → length (row_records k widths times states r) ≡ rows_size k widths r
  unfolding row_records row_record rows_size
  rows_length zero h = refl
  rows_length (suc r) h =
      rw (
        length-append,
        length-append,
        rows_length r (omega arith),
        codes_all r h,
        bytes_length (widths r) (get_or times r 0),
      )
      (omega arith)

-- the writer's rows
module _ (k : ℕ) (times states : List ℕ) (n : ℕ) (all : length states ≡ n * k) where
  module _ (r : ℕ) {from q at : ℕ} {out₀ out : List ℕ} (there : from ≡ r * k)
      (p : Put out₀ at (row_records k (fewest_of times) times states r) out q) where
    pub row_fits : r < n → at + rows_size k (fewest_of times) n ≤ length out₀
        → RowFits (get_or times r 0) (take (from + k - from) (drop from states)) out q
    row_fits h room =
        record {
          room =
              omega (
                arith,
                length-take (from + k - from) (drop from states),
                rows_length k (fewest_of times) times states n all r (omega arith),
                size_next k (fewest_of times) r,
                size_mono k (fewest_of times) (r + 1) n (omega arith),
                p.next,
                put_length p,
              );
        }

    pub rows_put : {q' : ℕ} {out' : List ℕ}
        → Put out q (row_record (fewest_of times r) (get_or times r 0) (take (from + k - from) (drop from states))) out' q'
        → Put out₀ at (row_records k (fewest_of times) times states (r + 1)) out' q'
    unfolding row_records codes_of
    rows_put h =
        let size : from + k - from ≡ k = omega arith in
        rw (add-one r) (put_then p (rw (size, there) at h))
