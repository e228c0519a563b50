-- Names, letters of states and numbers are words of a text: they have no blank and no LF.
--   name_dense, letter_dense, decimal_dense    names, letters and numbers
--   Digit, decimal_digits, digit_is            the digits of a number
--   no_comment                                 a number starts no comment
use Prim.Native.Nat.{ℕ, zero, suc, ◌/◌, ◌≤◌}
use native.Mathlib.Omega.{arith}
use mathlib.Core.Path.{◌≡◌, refl, sym, ap, ◌∙◌}
use mathlib.Core.Bool.{Bool, true, false}
use mathlib.Core.List.{List, [], ◌∷◌, ◌++◌}
use lib.ListN.{length, get_or}
use borrow.Author.Tests.{ne_eqb, le-leb}
use Rattle.basics.specs.Words.{All, all}
use Rattle.basics.specs.Text.{bytes}
use Rattle.basics.proofs.Bools.{never, and_left, and_right}
use Rattle.alf.specs.Names.{is_decimal, starts_name, goes_on_name, is_name, is_letter}
use Rattle.figures.specs.Numbers.{digits, width, decimal}
use Rattle.figures.proofs.Digits.{decimal_length, width_some}
use Rattle.listing.specs.Listing.{letter}
use Rattle.trace_texts.specs.Words.{is_blank_lem}
use Rattle.trace_texts.proofs.Splitting.{Solid, Dense, dense}

-- a byte of a class that has no blank and no LF
solid_of : (f : ℕ → Bool) {b : ℕ} → f 10 ≡ false → f 32 ≡ false → f 9 ≡ false → f 13 ≡ false → f b ≡ true → Solid b
unfolding is_blank_lem
solid_of f {b} e g h i t =
    let other : (c : ℕ) → f c ≡ false → b ≡ c → ⊥ = λ c n p. never (sym n ∙ ap f (sym p) ∙ t) in
    record {
      no_end = ne_eqb b 10 (other 10 e);
      no_blank = rw (ne_eqb b 32 (other 32 g), ne_eqb b 9 (other 9 h), ne_eqb b 13 (other 13 i)) refl;
    }

goes_solid : {b : ℕ} → goes_on_name b ≡ true → Solid b
unfolding goes_on_name starts_name is_letter is_decimal
goes_solid t = solid_of goes_on_name refl refl refl refl t

all_solid : (bs : List ℕ) → all goes_on_name bs ≡ true → All Solid bs
unfolding all
all_solid [] h = All.none
all_solid (b ∷ bs) h =
    All.more (goes_solid (and_left (goes_on_name b) (all goes_on_name bs) h))
    (all_solid bs (and_right (goes_on_name b) (all goes_on_name bs) h))

starts_solid : {b : ℕ} → starts_name b ≡ true → Solid b
unfolding starts_name is_letter
starts_solid t = solid_of starts_name refl refl refl refl t

pub name_dense : (s : List ℕ) → is_name s ≡ true → Dense s
unfolding is_name
name_dense [] h = never h
name_dense (b ∷ bs) h =
    dense (starts_solid (and_left (starts_name b) _ h))
    (all_solid bs (and_left (all goes_on_name bs) _ (and_right (starts_name b) _ h)))

pub letter_dense : (c : ℕ) → c ≤ 7 → Dense (letter c ∷ [])
unfolding letter bytes goes_on_name starts_name is_letter is_decimal
letter_dense c h = Dense.one (goes_solid (goes c h))
  where
    goes : (c : ℕ) → c ≤ 7 → goes_on_name (letter c) ≡ true
    goes zero h = refl
    goes (suc zero) h = refl
    goes (suc (suc zero)) h = refl
    goes (suc (suc (suc zero))) h = refl
    goes (suc (suc (suc (suc zero)))) h = refl
    goes (suc (suc (suc (suc (suc zero))))) h = refl
    goes (suc (suc (suc (suc (suc (suc zero)))))) h = refl
    goes (suc (suc (suc (suc (suc (suc (suc zero))))))) h = refl
    goes (suc (suc (suc (suc (suc (suc (suc (suc c)))))))) h = absurd (omega arith)

-- a number: digits, one at least
pub record Digit (d : ℕ) : Type 0 where
  pub low : 48 ≤ d
  pub high : d ≤ 57

all_last : {P : ℕ → Type 0} {ds : List ℕ} {d : ℕ} → All P ds → P d → All P (ds ++ (d ∷ []))
all_last All.none p = All.more p All.none
all_last (All.more q a) p = All.more q (all_last a p)

digits_all : (k n : ℕ) → All Digit (digits k n)
unfolding digits
digits_all zero n = All.none
digits_all (suc k) n = all_last (digits_all k (n / 10)) (record { low = omega arith; high = omega arith })

pub decimal_digits : (n : ℕ) → All Digit (decimal n)
unfolding decimal
decimal_digits n = digits_all (width n) n

pub digit_is : {d : ℕ} → Digit d → is_decimal d ≡ true
unfolding is_decimal
digit_is {d} g = rw (le-leb 48 d g.low, le-leb d 57 g.high) refl

digit_solid : {d : ℕ} → Digit d → Solid d
unfolding is_decimal
digit_solid g = solid_of is_decimal refl refl refl refl (digit_is g)

digits_dense : (ds : List ℕ) → 1 ≤ length ds → All Digit ds → Dense ds
digits_dense [] h a = absurd (omega arith)
digits_dense (d ∷ ds) h (All.more g a) = dense (digit_solid g) (solids a)
  where
    solids : {ds : List ℕ} → All Digit ds → All Solid ds
    solids All.none = All.none
    solids (All.more g a) = All.more (digit_solid g) (solids a)

some_digit : (n : ℕ) → 1 ≤ length (decimal n)
some_digit n = omega (arith, decimal_length n, width_some n)

pub decimal_dense : (n : ℕ) → Dense (decimal n)
decimal_dense n = digits_dense (decimal n) (some_digit n) (decimal_digits n)

pub no_comment : (ds : List ℕ) → All Digit ds → get_or ds 0 0 ≡ 35 → ⊥
no_comment [] a e = omega arith
no_comment (d ∷ ds) (All.more g a) e = omega (arith, g.low, e)
