-- The time that a word is, digit by digit.
--   timely                                     whether digits, behind a number, are a time
--   Timing, timing_first, timing_next          the digits before the i-th are read
--   time_none, time_low, time_high, time_large, time_end     what is returned
use Rattle.std.specs.Prelude.{Some, None}
use Prim.Native.Nat.{ℕ, zero, suc, ◌+◌, ◌-◌, ◌*◌, ◌<◌, ◌≤◌}
use native.Mathlib.Omega.{arith}
use native.Mathlib.Numerals.{add-one}
use mathlib.Core.Path.{◌≡◌, refl, sym, ap, ◌∙◌}
use mathlib.Core.Bool.{Bool, true, false, ◌&&◌}
use mathlib.Core.List.{List, [], ◌∷◌}
use lib.Dec.{ltb, leb}
use lib.ListN.{length, get_or, drop, drop_of_length-le}
use lib.Seq.{drop-cons}
use borrow.Author.Tests.{lt-ltb, le-ltb, le-leb, lt-leb}
use Rattle.basics.specs.Words.{all}
use Rattle.alf.specs.Names.{is_decimal}
use Rattle.figures.specs.Numbers.{reading}
use Rattle.trace_texts.specs.Texts.{time_bound, is_time}
use Rattle.text_checks.specs.Inner.{ReadsTime}

unfoldable pub timely : ℕ → List ℕ → Bool
timely n ds = all is_decimal ds && ltb (reading n ds) time_bound

-- what is read grows
grows : (n : ℕ) (ds : List ℕ) → n ≤ reading n ds
unfolding reading
grows n [] = omega arith
grows n (d ∷ ds) = omega (arith, grows (n * 10 + (d - 48)) ds)

no_digit : (n b : ℕ) (ds : List ℕ) → is_decimal b ≡ false → timely n (b ∷ ds) ≡ false
unfolding timely all
no_digit n b ds e = rw e refl

digit_on : (n b : ℕ) (ds : List ℕ) → is_decimal b ≡ true → timely n (b ∷ ds) ≡ timely (n * 10 + (b - 48)) ds
unfolding timely all reading
digit_on n b ds e = rw e refl

digit_read : (n b : ℕ) (ds : List ℕ) → reading n (b ∷ ds) ≡ reading (n * 10 + (b - 48)) ds
unfolding reading
digit_read n b ds = refl

and_no : (b : Bool) → (b && false) ≡ false
and_no true = refl
and_no false = refl

too_large_lem : (n : ℕ) (ds : List ℕ) → time_bound ≤ n → timely n ds ≡ false
unfolding timely
too_large_lem n ds h =
    let e : ltb (reading n ds) time_bound ≡ false = le-ltb (reading n ds) time_bound (omega (arith, grows n ds)) in
    rw (e, and_no (all is_decimal ds)) refl

time_whole : (ds : List ℕ) → (length ds ≡ 0 → ⊥) → timely 0 ds ≡ is_time ds
unfolding timely is_time
time_whole ds n = rw (lt-ltb 0 (length ds) (some (length ds) n)) refl
  where
    some : (m : ℕ) → (m ≡ 0 → ⊥) → 0 < m
    some zero h = absurd (h refl)
    some (suc m) h = omega arith

-- a word that is no time
untimely : (word : List ℕ) → is_time word ≡ false → ReadsTime word None
unfolding ReadsTime
untimely word e = e

pub time_none : (word : List ℕ) → length word ≡ 0 → ReadsTime word None
unfolding is_time
time_none [] h = untimely [] refl
time_none (d ∷ ds) h = absurd (omega arith)

-- the digits before the i-th are read, and are n
pub record Timing (word : List ℕ) (n i : ℕ) : Type 0 where
  pub within : i ≤ length word
  pub small : n < time_bound
  pub left : timely n (drop i word) ≡ is_time word
  pub value : reading n (drop i word) ≡ reading 0 word

pub timing_first : {word : List ℕ} → (length word ≡ 0 → ⊥) → Timing word 0 0
timing_first {word} h =
    record { within = omega arith; small = omega arith; left = time_whole word h; value = refl }

module _ {word : List ℕ} {n i : ℕ} (g : Timing word n i) where
  pub time_end : length word ≤ i → ReadsTime word (Some n)
  unfolding timely all reading ReadsTime
  time_end h =
      let e = rw (drop_of_length-le word {i = i} h) at g.left in
      let v = rw (drop_of_length-le word {i = i} h) at g.value in
      (sym e ∙ rw (lt-ltb n time_bound g.small) refl, v)

  module _ (h : i < length word) where
    here : timely n (get_or word i 0 ∷ drop (suc i) word) ≡ is_time word
    here = ap (timely n) (sym (drop-cons word i 0 h)) ∙ g.left

    pub time_low : get_or word i 0 < 48 → ReadsTime word None
    unfolding is_decimal
    time_low l =
        let e : is_decimal (get_or word i 0) ≡ false = rw (lt-leb 48 (get_or word i 0) l) refl in
        untimely _ (sym here ∙ no_digit n (get_or word i 0) (drop (suc i) word) e)

    pub time_high : 57 < get_or word i 0 → ReadsTime word None
    unfolding is_decimal
    time_high l =
        let e : is_decimal (get_or word i 0) ≡ false =
        rw (lt-leb (get_or word i 0) 57 l) (and_no (leb 48 (get_or word i 0))) in
        untimely _ (sym here ∙ no_digit n (get_or word i 0) (drop (suc i) word) e)

    module _ (low : 48 ≤ get_or word i 0) (high : get_or word i 0 ≤ 57) where
      digit : is_decimal (get_or word i 0) ≡ true
      unfolding is_decimal
      digit = rw (le-leb 48 (get_or word i 0) low, le-leb (get_or word i 0) 57 high) refl

      next : timely (n * 10 + (get_or word i 0 - 48)) (drop (suc i) word) ≡ is_time word
      next = sym (digit_on n (get_or word i 0) (drop (suc i) word) digit) ∙ here

      value_next : reading (n * 10 + (get_or word i 0 - 48)) (drop (suc i) word) ≡ reading 0 word
      value_next =
          sym (digit_read n (get_or word i 0) (drop (suc i) word)) ∙ ap (reading n) (sym (drop-cons word i 0 h))
          ∙ g.value

      pub time_large : time_bound ≤ n * 10 + (get_or word i 0 - 48) → ReadsTime word None
      time_large l = untimely _ (sym next ∙ too_large_lem _ (drop (suc i) word) l)

      pub timing_next : {m : ℕ} → m ≡ n * 10 + (get_or word i 0 - 48) → m < time_bound → Timing word m (i + 1)
      timing_next e l =
          rw e
          (record {
            within = omega arith;
            small = omega (arith, l, e);
            left = rw (add-one i) next;
            value = rw (add-one i) value_next;
          })
