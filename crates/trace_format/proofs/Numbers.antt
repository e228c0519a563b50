-- The bytes of a number, low first, and the number of such bytes: one law for every width.
--   word_is, time_short, time_long   what the code reads byte by byte, and four bytes by four
--   number_spelt   bytes that stand at a place are those of their number
--   number_read    and the bytes of a number give it back
--   number_small   how large it is at most
--   fits_small     a time that fits
--   bytes_length, bytes_twice, number_twice   how many bytes they are; eight bytes are four and four
use mathlib.Core.Path.{◌≡◌, refl, sym, ap, ◌∙◌}
use mathlib.Core.List.{List, ◌∷◌, ◌++◌}
use mathlib.Core.Logic.{⊎_elim}
use Prim.Native.Nat.{ℕ, zero, suc, ◌+◌, ◌*◌, ◌/◌, ◌%◌, ◌^◌, ◌≤◌, ◌<◌}
use native.Mathlib.Omega.{arith}
use native.Mathlib.Nat.{add-zero}
use native.Mathlib.Numerals.{add-one}
use lib.ListN.{length, get_or, drop}
use lib.Seq.{drop-cons, get_or-drop, drop-drop}
use Rattle.trace_format.specs.Format.{bytes_of, Fits}
use Rattle.trace_format.specs.Records.{number_at}
use Rattle.trace_format.specs.Parts.{ByteIs, WordIs, TimeThere}

pub bytes_length : (w x : ℕ) → length (bytes_of w x) ≡ w
unfolding bytes_of
bytes_length zero x = refl
bytes_length (suc w) x = ap suc (bytes_length w (x / 256))

pub bytes_twice : (x : ℕ) → bytes_of 8 x ≡ bytes_of 4 x ++ bytes_of 4 (x / 4294967296)
unfolding bytes_of
bytes_twice x =
    let e : x / 256 / 256 / 256 / 256 ≡ x / 4294967296 = omega arith in
    rw e

-- a time that fits has 64 bits
pub fits_small : {w t : ℕ} → Fits w t → t < 2 ^ 64
fits_small {w} {t} f = ⊎_elim go_4 go_8 f.kind
  where
    go_4 : w ≡ 4 → t < 2 ^ 64
    go_4 e = let h : t < 256 ^ 4 = rw e at f.small in omega arith

    go_8 : w ≡ 8 → t < 2 ^ 64
    go_8 e = let h : t < 256 ^ 8 = rw e at f.small in omega arith

low_byte : (a x : ℕ) → a < 256 → (a + 256 * x) % 256 ≡ a
low_byte a x h = omega arith

high_bytes : (a x : ℕ) → a < 256 → (a + 256 * x) / 256 ≡ x
high_bytes a x h = omega arith

module _ (file : List ℕ) where
  pub number_four : (p : ℕ) → number_at 4 file p
      ≡ get_or file p 0 + 256 * get_or file (p + 1) 0 + 65536 * get_or file (p + 2) 0 + 16777216 * get_or file (p + 3) 0
  unfolding number_at
  number_four p =
      let e₁ : p + 1 + 1 ≡ p + 2 = omega arith in
      let e₂ : p + 2 + 1 ≡ p + 3 = omega arith in
      rw (e₁, e₂) (omega arith)

  pub number_twice : (p : ℕ) → number_at 8 file p ≡ number_at 4 file p + 4294967296 * number_at 4 file (p + 4)
  unfolding number_at
  number_twice p =
      let e₁ : p + 1 + 1 ≡ p + 2 = omega arith in
      let e₂ : p + 2 + 1 ≡ p + 3 = omega arith in
      let e₃ : p + 3 + 1 ≡ p + 4 = omega arith in
      rw (e₁, e₂, e₃) (omega arith)

  module _ (p : ℕ) {a b c d : ℕ} (first : ByteIs (get_or file p 0) a) (second : ByteIs (get_or file (p + 1) 0) b)
      (third : ByteIs (get_or file (p + 2) 0) c) (fourth : ByteIs (get_or file (p + 3) 0) d) where
    pub word_is : WordIs (number_at 4 file p) (a + 256 * b + 65536 * c + 16777216 * d)
    word_is =
        record {
          is = omega (arith, first.is, second.is, third.is, fourth.is, number_four p);
          small = omega (arith, first.small, second.small, third.small, fourth.small);
        }

  pub time_front : (p : ℕ) {w : ℕ} → TimeThere w file p → p + 4 ≤ length file
  time_front p t = ⊎_elim (λ e. omega (arith, t.whole)) (λ e. omega (arith, t.whole)) t.kind

  module _ (p : ℕ) {w low : ℕ} (there : TimeThere w file p) (word : WordIs (number_at 4 file p) low) where
    pub time_short : w ≡ 4 → low ≡ number_at w file p
    time_short e = rw e word.is

    eight : (w ≡ 4 → ⊥) → w ≡ 8
    eight n = ⊎_elim (λ e. absurd (n e)) (λ e. e) there.kind

    pub time_whole : (w ≡ 4 → ⊥) → p + 4 + 4 ≤ length file
    time_whole n = omega (arith, eight n, there.whole)

    pub time_long : {high : ℕ} → (w ≡ 4 → ⊥) → WordIs (number_at 4 file (p + 4)) high
        → low + 4294967296 * high ≡ number_at w file p
    time_long n upper = rw (eight n, number_twice p, word.is, upper.is)

  module _ (bytes : (i : ℕ) → get_or file i 0 < 256) where
    pub number_small : (w p : ℕ) → number_at w file p < 256 ^ w
    unfolding number_at
    number_small zero p = omega arith
    number_small (suc w) p = omega (arith, bytes p, number_small w (p + 1))

    pub number_spelt : (w p : ℕ) → p + w ≤ length file
        → drop p file ≡ bytes_of w (number_at w file p) ++ drop (p + w) file
    unfolding number_at bytes_of
    number_spelt zero p h = rw add-zero
    number_spelt (suc w) p h =
        let e : p + 1 + w ≡ p + suc w = omega arith in
        let l : p < length file = omega arith in
        rw (
          low_byte (get_or file p 0) (number_at w file (p + 1)) (bytes p),
          high_bytes (get_or file p 0) (number_at w file (p + 1)) (bytes p),
        )
        (drop-cons file p 0 l
        ∙ ap (λ (t : List ℕ). get_or file p 0 ∷ t)
        (rw (← add-one p) (rw e at (number_spelt w (p + 1) (omega arith)))))

  pub number_read : (w x p : ℕ) (rest : List ℕ) → x < 256 ^ w → drop p file ≡ bytes_of w x ++ rest
      → number_at w file p ≡ x
  unfolding number_at bytes_of
  number_read zero x p rest h e = omega arith
  number_read (suc w) x p rest h e =
      let first : get_or file p 0 ≡ x % 256 =
      rw add-zero at (sym (get_or-drop p file 0 0)) ∙ ap (λ (t : List ℕ). get_or t 0 0) e in
      let next : drop (p + 1) file ≡ bytes_of w (x / 256) ++ rest =
      sym (drop-drop 1 p file) ∙ ap (drop 1) e in
      let ih : number_at w file (p + 1) ≡ x / 256 =
      number_read w (x / 256) (p + 1) rest (omega arith) next in
      rw (first, ih) (omega arith)
