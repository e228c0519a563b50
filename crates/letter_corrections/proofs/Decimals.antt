-- The row number that digits are.
--   going           the number that digits are, behind a number, up to 65,536
--   going_first, going_next, going_end      digit by digit
--   no_digit, gone_small, gone_large        one step of the code
--   number_read     what is written as a row number is read as it
use Rattle.std.specs.Prelude.{if◌then◌else◌}
use Prim.Native.Nat.{ℕ, zero, suc, ◌+◌, ◌-◌, ◌*◌, ◌/◌, ◌%◌, ◌<◌, ◌≤◌, min}
use native.Mathlib.Omega.{arith}
use native.Mathlib.Numerals.{add-one}
use mathlib.Core.Path.{◌≡◌, refl, sym, ap, ◌∙◌}
use mathlib.Core.Bool.{Bool, true, false, ◌&&◌}
use mathlib.Core.Logic.{◌⊎◌, inl, inr}
use mathlib.Core.List.{List, [], ◌∷◌, ◌++◌}
use lib.ListN.{length, get_or, drop, drop_of_length-le}
use lib.Dec.{leb}
use lib.Seq.{drop-cons}
use borrow.Author.Tests.{le-leb, lt-leb}
use Rattle.basics.specs.Words.{all}
use Rattle.alf.specs.Names.{is_decimal}
use Rattle.basics.proofs.Bools.{below?, and_left, and_right}
use Rattle.figures.specs.Numbers.{digits, width, decimal}
use Rattle.figures.specs.Numbers.{reading}
use Rattle.figures.proofs.Digits.{decimal_read, decimal_length, width_some}
use Rattle.letter_corrections.specs.RowNumbers.{row_number, gone_on}

unfoldable pub going : ℕ → List ℕ → ℕ
going n ds = if all is_decimal ds then min (reading n ds) 65536 else 65536

-- what is read grows
reading_grows : (n : ℕ) (ds : List ℕ) → n ≤ reading n ds
unfolding reading
reading_grows n [] = omega arith
reading_grows n (d ∷ ds) = omega (arith, reading_grows (n * 10 + (d - 48)) ds)

going_full : (n : ℕ) (ds : List ℕ) → 65536 ≤ n → going n ds ≡ 65536
unfolding going
going_full n ds h = go (all is_decimal ds)
  where
    go : (b : Bool) → (if b then min (reading n ds) 65536 else 65536) ≡ 65536
    go true = omega (arith, reading_grows n ds)
    go false = refl

-- where a number is cut to 65,536, so is what is read behind it
going_cut : (m : ℕ) (ds : List ℕ) → going (min m 65536) ds ≡ going m ds
going_cut m ds = go (below? m 65536)
  where
    go : (m < 65536) ⊎ (65536 ≤ m) → going (min m 65536) ds ≡ going m ds
    go (inl l) = let e : min m 65536 ≡ m = omega arith in rw e refl
    go (inr l) = going_full (min m 65536) ds (omega arith) ∙ sym (going_full m ds l)

going_step : (n b : ℕ) (ds : List ℕ) → going n (b ∷ ds) ≡ going (gone_on n b) ds
unfolding going gone_on all reading
going_step n b ds = go (is_decimal b)
  where
    go : (x : Bool) → (if x && all is_decimal ds then min (reading (n * 10 + (b - 48)) ds) 65536 else 65536)
        ≡ going (if x then min (n * 10 + (b - 48)) 65536 else 65536) ds
    go true = sym (going_cut (n * 10 + (b - 48)) ds)
    go false = sym (going_full 65536 ds (omega arith))

-- the loop: n is read, the bytes from i on are left
pub record Numbering (text : List ℕ) (n i : ℕ) : Type 0 where
  pub within : i ≤ length text
  pub small : n ≤ 65536
  pub left : going n (drop i text) ≡ going 0 text

gone_most : (n b : ℕ) → gone_on n b ≤ 65536
unfolding gone_on
gone_most n b = go (is_decimal b)
  where
    go : (x : Bool) → (if x then min (n * 10 + (b - 48)) 65536 else 65536) ≤ 65536
    go true = omega arith
    go false = omega arith

pub going_first : {text : List ℕ} → Numbering text 0 0
going_first = record { within = omega arith; small = omega arith; left = refl }

pub going_next : {text : List ℕ} {n i m : ℕ} → Numbering text n i → i < length text
    → m ≡ gone_on n (get_or text i 0) → Numbering text m (i + 1)
going_next {text} {n} {i} g h e =
    record {
      within = omega arith;
      small = rw e (gone_most n (get_or text i 0));
      left =
          rw (e, add-one i)
          (sym (going_step n (get_or text i 0) (drop (suc i) text))
          ∙ ap (going n) (sym (drop-cons text i 0 h))
          ∙ g.left);
    }

whole : (text : List ℕ) → (length text ≡ 0 → ⊥) → going 0 text ≡ row_number text
unfolding going row_number
whole [] h = absurd (h refl)
whole (b ∷ bs) h = refl

pub going_end : {text : List ℕ} {n i : ℕ} → Numbering text n i → length text ≤ i
    → (length text ≡ 0 → ⊥)
    → n ≡ row_number text
unfolding going reading all
going_end {text} {n} {i} g h some =
    let e = rw (drop_of_length-le text {i = i} h) at g.left in
    let s = g.small in
    let f : n ≡ min n 65536 = omega arith in
    f ∙ e ∙ whole text some

pub none_number : (text : List ℕ) → length text ≡ 0 → 65536 ≡ row_number text
unfolding row_number
none_number [] h = refl
none_number (b ∷ bs) h = absurd (omega arith)

-- one step of the code
pub no_digit : (n b : ℕ) → (b < 48) ⊎ (57 < b) → 65536 ≡ gone_on n b
unfolding gone_on is_decimal
no_digit n b (inl l) = rw (lt-leb 48 b l) refl
no_digit n b (inr l) = go (leb 48 b)
  where
    go : (x : Bool) → 65536 ≡ (if x && leb b 57 then min (n * 10 + (b - 48)) 65536 else 65536)
    go true = rw (lt-leb b 57 l) refl
    go false = refl

module _ (n : ℕ) {b : ℕ} (low : 48 ≤ b) (high : b ≤ 57) where
  gone_on_lem : gone_on n b ≡ min (n * 10 + (b - 48)) 65536
  unfolding gone_on is_decimal
  gone_on_lem = rw (le-leb 48 b low, le-leb b 57 high) refl

  pub gone_small : n * 10 + (b - 48) < 65536 → n * 10 + (b - 48) ≡ gone_on n b
  gone_small h = omega (arith, gone_on_lem)

  pub gone_large : 65536 ≤ n * 10 + (b - 48) → 65536 ≡ gone_on n b
  gone_large h = omega (arith, gone_on_lem)

-- what is written as a number is read as it
digit_is : (n : ℕ) → is_decimal (48 + n % 10) ≡ true
unfolding is_decimal
digit_is n = rw (le-leb 48 (48 + n % 10) (omega arith), le-leb (48 + n % 10) 57 (omega arith)) refl

all_last : (ds : List ℕ) (d : ℕ) → all is_decimal ds ≡ true → is_decimal d ≡ true
    → all is_decimal (ds ++ (d ∷ [])) ≡ true
unfolding all
all_last [] d h k = rw k refl
all_last (x ∷ ds) d h k =
    let y = and_left (is_decimal x) (all is_decimal ds) h in
    let z = all_last ds d (and_right (is_decimal x) (all is_decimal ds) h) k in rw (y, z) refl

digits_all : (k n : ℕ) → all is_decimal (digits k n) ≡ true
unfolding digits all
digits_all zero n = refl
digits_all (suc k) n = all_last (digits k (n / 10)) (48 + n % 10) (digits_all k (n / 10)) (digit_is n)

pub number_read : (n : ℕ) → n ≤ 65535 → row_number (decimal n) ≡ n
unfolding going decimal
number_read n h =
    sym (whole (decimal n) (λ e. omega (arith, decimal_length n, width_some n)))
    ∙ rw (digits_all (width n) n, decimal_read n (omega arith)) (omega arith)
