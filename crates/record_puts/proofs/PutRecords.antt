-- A record is written where its parts are, one behind the other.
--   mark_put, word_put            two bytes and four bytes, stored one by one
--   time_short, time_long         a time, four bytes by four
--   name_put, row_put, end_put    a record, by its parts
use mathlib.Core.Path.{◌≡◌, refl}
use mathlib.Core.List.{List, [], ◌∷◌}
use mathlib.Core.Logic.{⊎_elim}
use Prim.Native.Nat.{ℕ, suc, ◌+◌, ◌/◌, ◌%◌, ◌≤◌}
use native.Mathlib.Omega.{arith}
use native.Mathlib.Numerals.{add-one}
use lib.ListN.{length, set}
use Rattle.basics.specs.Memory.{Put}
use Rattle.basics.proofs.PartByPart.{put_then, put_length}
use Rattle.trace_format.specs.Format.{bytes_of, fewest, row_letter, name_record, row_record, end_record}
use Rattle.trace_format.proofs.Numbers.{bytes_length, bytes_twice}
use Rattle.trace_format.specs.Parts.{FewestIs}
use Rattle.record_puts.specs.Fitting.{TimeFits, RowFits}

pub mark_put : (d : List ℕ) (at a b : ℕ) → Put d at (a ∷ b ∷ []) (set (set d at a) (at + 1) b) (at + 2)
mark_put d at a b = record { bytes = rw add-one; next = refl }

four_put : (d : List ℕ) (at a b x y : ℕ)
    → Put d at (a ∷ b ∷ x ∷ y ∷ []) (set (set (set (set d at a) (at + 1) b) (at + 2) x) (at + 3) y) (at + 4)
four_put d at a b x y =
    let one : at + 1 ≡ suc at = omega arith in
    let two : at + 2 ≡ suc (suc at) = omega arith in
    let three : at + 3 ≡ suc (suc (suc at)) = omega arith in
    record { bytes = rw (one, two, three); next = refl }

pub word_put : (d : List ℕ) (at x : ℕ) → Put d at (bytes_of 4 x)
    (set (set (set (set d at (x % 256)) (at + 1) (x / 256 % 256)) (at + 2) (x / 65536 % 256)) (at + 3)
    (x / 16777216 % 256))
    (at + 4)
unfolding bytes_of
word_put d at x =
    let e : x / 256 / 256 ≡ x / 65536 = omega arith in
    let f : x / 65536 / 256 ≡ x / 16777216 = omega arith in
    rw (e, f) (four_put d at _ _ _ _)

-- a time, four bytes by four
module _ (x : ℕ) {d d₁ : List ℕ} {at p w : ℕ} (fits : TimeFits w d at) (low : Put d at (bytes_of 4 x) d₁ p) where
  pub time_short : w ≡ 4 → Put d at (bytes_of w x) d₁ p
  time_short e = rw e low

  eight : (w ≡ 4 → ⊥) → w ≡ 8
  eight n = ⊎_elim (λ e. absurd (n e)) (λ e. e) fits.kind

  pub time_room : (w ≡ 4 → ⊥) → p + 4 ≤ length d₁
  time_room n = omega (arith, eight n, fits.room, low.next, put_length low, bytes_length 4 x)

  pub time_long : {d₂ : List ℕ} {q : ℕ} → (w ≡ 4 → ⊥) → Put d₁ p (bytes_of 4 (x / 4294967296)) d₂ q
      → Put d at (bytes_of w x) d₂ q
  time_long n high = rw (eight n, bytes_twice x) (put_then low high)

pub time_front : {d : List ℕ} {at w : ℕ} → TimeFits w d at → at + 4 ≤ length d
time_front f = ⊎_elim (λ e. omega (arith, f.room)) (λ e. omega (arith, f.room)) f.kind

pub time_fits : {t w l : ℕ} {codes d d₁ : List ℕ} {at p : ℕ} → RowFits t codes d at → FewestIs t w
    → Put d at (82 ∷ l ∷ []) d₁ p
    → TimeFits w d₁ p
time_fits fits width mark =
    record {
      kind = width.kind;
      room = omega (arith, fits.room, width.is, mark.next, put_length mark);
    }

module _ {out d₁ d₂ : List ℕ} {at p q : ℕ} where
  pub name_put : {name d₃ : List ℕ} {r : ℕ} → Put out at (78 ∷ 77 ∷ []) d₁ p
      → Put d₁ p (length name ∷ []) d₂ q
      → Put d₂ q name d₃ r
      → Put out at (name_record name) d₃ r
  unfolding name_record
  name_put mark size name = put_then (put_then mark size) name

  pub row_put : (t : ℕ) {w l : ℕ} {codes d₃ : List ℕ} {r : ℕ} → FewestIs t w → l ≡ row_letter w
      → Put out at (82 ∷ l ∷ []) d₁ p
      → Put d₁ p (bytes_of w t) d₂ q
      → Put d₂ q codes d₃ r
      → Put out at (row_record (fewest t) t codes) d₃ r
  unfolding row_record
  row_put t width letter mark time codes =
      rw (← width.is) (put_then (put_then (rw letter at mark) time) codes)

  pub end_put : (n : ℕ) → Put out at (69 ∷ 78 ∷ []) d₁ p → Put d₁ p (bytes_of 4 n) d₂ q
      → Put out at (end_record n) d₂ q
  unfolding end_record
  end_put n mark rows = put_then mark rows
