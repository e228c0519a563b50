-- Laws of numbers as text.
--   digits_length              k digits are k bytes
--   width_small, width_more    one digit below ten, else one more than the tenth part has
--   width_some, width_most     at least one; below 10^k at most k
-- Of a number below 10^21, and so of every number of 64 bits:
--   decimal_read               the digits, read, are the number
--   decimal_first              the first is a 0 only where the number is 0
--   decimal_short, word_short  a number of 64 bits, of 32 bits, has at most 20
use Rattle.std.specs.Prelude.{if◌then◌else◌}
use Prim.Native.Nat.{ℕ, zero, suc, ◌+◌, ◌-◌, ◌*◌, ◌/◌, ◌%◌, ◌^◌, ◌<◌, ◌≤◌}
use native.Mathlib.Nat.{pow-suc}
use native.Mathlib.Omega.{arith}
use mathlib.Core.Path.{◌≡◌, refl, sym, ap, ◌∙◌}
use mathlib.Core.Logic.{◌⊎◌, inl, inr}
use mathlib.Core.List.{List, [], ◌∷◌, ◌++◌}
use lib.ListN.{length, get_or, length-append, get_or-append}
use mir.Val.{Fits}
use mir.Syntax.{w64}
use mathlib.Core.Bool.{Bool, true, false}
use lib.Dec.{ltb}
use borrow.Author.Tests.{lt-ltb, le-ltb}
use Rattle.basics.proofs.Bools.{below?}
use Rattle.figures.specs.Numbers.{digits, width_up_to, width, decimal, reading}

pub digits_length : (k n : ℕ) → length (digits k n) ≡ k
unfolding digits
digits_length zero n = refl
digits_length (suc k) n = length-append (digits k (n / 10)) _ ∙ omega (arith, digits_length k (n / 10))

-- however far is counted, once that is far enough
step_small : (k n : ℕ) → n < 10 → width_up_to k n ≡ 1
unfolding width_up_to
step_small zero n h = refl
step_small (suc k) n h = rw (lt-ltb n 10 h)

step_more : (k n : ℕ) → 10 ≤ n → width_up_to (suc k) n ≡ suc (width_up_to k (n / 10))
unfolding width_up_to
step_more k n h = rw (le-ltb n 10 h)

same_width : (k l n : ℕ) → n < 10 ^ suc k → n < 10 ^ suc l → width_up_to k n ≡ width_up_to l n
same_width zero l n g h = step_small zero n (omega arith) ∙ sym (step_small l n (omega arith))
same_width (suc k) zero n g h = step_small (suc k) n (omega arith) ∙ sym (step_small zero n (omega arith))
same_width (suc k) (suc l) n g h = go (below? n 10) (same_width k l (n / 10))
  where
    go : (n < 10) ⊎ (10 ≤ n)
        → (n / 10 < 10 ^ suc k → n / 10 < 10 ^ suc l → width_up_to k (n / 10) ≡ width_up_to l (n / 10))
        → width_up_to (suc k) n ≡ width_up_to (suc l) n
    go (inl s) f = step_small (suc k) n s ∙ sym (step_small (suc l) n s)
    go (inr s) f =
        step_more k n s
        ∙ ap suc (f (omega (arith, pow-suc 10 (suc k))) (omega (arith, pow-suc 10 (suc l))))
        ∙ sym (step_more l n s)

pub width_small : (n : ℕ) → n < 10 → width n ≡ 1
unfolding width
width_small n h = step_small 20 n h

pub width_more : (n : ℕ) → n < 10 ^ 21 → 10 ≤ n → width n ≡ suc (width (n / 10))
unfolding width
width_more n l h = step_more 19 n h ∙ ap suc (same_width 19 20 (n / 10) (omega arith) (omega arith))

pub width_some : (n : ℕ) → 1 ≤ width n
unfolding width width_up_to
width_some n = go (ltb n 10)
  where
    go : (b : Bool) → 1 ≤ (if b then 1 else suc (width_up_to 19 (n / 10)))
    go true = omega arith
    go false = omega arith

pub width_most : (k n : ℕ) → n < 10 ^ 21 → n < 10 ^ suc k → width n ≤ suc k
width_most zero n l h = omega (arith, width_small n h)
width_most (suc k) n l h = go (below? n 10) (width_most k (n / 10) (omega arith))
  where
    go : (n < 10) ⊎ (10 ≤ n) → (n / 10 < 10 ^ suc k → width (n / 10) ≤ suc k) → width n ≤ suc (suc k)
    go (inl s) f = omega (arith, width_small n s)
    go (inr s) f = omega (arith, width_more n l s, f (omega (arith, pow-suc 10 (suc k))))

-- a number of 64 bits has at most 20 digits
pub width_word : (n : ℕ) → Fits w64 n → width n ≤ 20
width_word n h = width_most 19 n (omega (arith, h.fits)) (omega (arith, h.fits))

pub decimal_small : (n : ℕ) → n < 10 → decimal n ≡ (48 + n % 10) ∷ []
unfolding decimal digits
decimal_small n h = ap (λ (k : ℕ). digits k n) (width_small n h)

pub decimal_more : (n : ℕ) → n < 10 ^ 21 → 10 ≤ n → decimal n ≡ decimal (n / 10) ++ ((48 + n % 10) ∷ [])
unfolding decimal digits
decimal_more n l h = ap (λ (k : ℕ). digits k n) (width_more n l h)

pub decimal_length : (n : ℕ) → length (decimal n) ≡ width n
unfolding decimal
decimal_length n = digits_length (width n) n

reading_last : (before : ℕ) (ds : List ℕ) (d : ℕ)
    → reading before (ds ++ (d ∷ [])) ≡ reading before ds * 10 + (d - 48)
unfolding reading
reading_last before [] d = refl
reading_last before (x ∷ ds) d = reading_last (before * 10 + (x - 48)) ds d

read_up_to : (k n : ℕ) → n < 10 ^ 21 → n ≤ k → reading 0 (decimal n) ≡ n
unfolding reading
read_up_to zero n l h = rw (decimal_small n (omega arith)) (omega arith)
read_up_to (suc k) n l h = go (below? n 10) (read_up_to k (n / 10) (omega arith))
  where
    go : (n < 10) ⊎ (10 ≤ n) → (n / 10 ≤ k → reading 0 (decimal (n / 10)) ≡ n / 10)
        → reading 0 (decimal n) ≡ n
    go (inl s) f = rw (decimal_small n s) (omega arith)
    go (inr s) f =
        ap (reading 0) (decimal_more n l s) ∙ reading_last 0 (decimal (n / 10)) (48 + n % 10)
        ∙ omega (arith, f (omega arith))

pub decimal_read : (n : ℕ) → n < 10 ^ 21 → reading 0 (decimal n) ≡ n
decimal_read n l = read_up_to n n l (omega arith)

first_up_to : (k n : ℕ) → n < 10 ^ 21 → n ≤ k → get_or (decimal n) 0 0 ≡ 48 → n ≡ 0
first_up_to zero n m h e = omega arith
first_up_to (suc k) n m h e = go (below? n 10) (first_up_to k (n / 10) (omega arith))
  where
    go : (n < 10) ⊎ (10 ≤ n) → (n / 10 ≤ k → get_or (decimal (n / 10)) 0 0 ≡ 48 → n / 10 ≡ 0) → n ≡ 0
    go (inl s) f = omega (arith, sym (ap (λ (l : List ℕ). get_or l 0 0) (decimal_small n s)) ∙ e)
    go (inr s) f =
        let l : 0 < length (decimal (n / 10)) = omega (arith, decimal_length (n / 10), width_some (n / 10)) in
        let g = get_or-append (decimal (n / 10)) ((48 + n % 10) ∷ []) 0 0 l in
        let z = f (omega arith) (sym g ∙ sym (ap (λ (x : List ℕ). get_or x 0 0) (decimal_more n m s)) ∙ e) in
        omega arith

pub decimal_first : (n : ℕ) → n < 10 ^ 21 → get_or (decimal n) 0 0 ≡ 48 → n ≡ 0
decimal_first n l e = first_up_to n n l (omega arith) e

-- numbers of 64 and of 32 bits
pub decimal_short : (n : ℕ) → Fits w64 n → length (decimal n) ≤ 20
decimal_short n h = omega (arith, decimal_length n, width_word n h)

pub word_short : (n : ℕ) → n < 2 ^ 32 → length (decimal n) ≤ 20
word_short n h = decimal_short n (record { fits = omega arith })
