-- What is read in a line, by the bytes of its words.
--   bytes_at        word i of a line
--   named_before    the names are the words before a last word `changed`, and what follows is passed over
--   letter_code     the letter of a state is read as its code
--   bytes_behind    the words behind the first
--   decimal_time    a number below the bound is a time
use Prim.Native.Nat.{ℕ, zero, suc, ◌<◌, ◌≤◌}
use native.Mathlib.Omega.{arith}
use mathlib.Core.Path.{◌≡◌, refl}
use mathlib.Core.Bool.{Bool, true, false, ◌&&◌, ◌||◌}
use mathlib.Core.List.{List, [], ◌∷◌, ◌++◌, map}
use lib.ListN.{length, get_or, drop}
use Rattle.basics.specs.Words.{same, All, all}
use Rattle.basics.specs.Text.{bytes}
use Rattle.alf.specs.States.{among}
use Rattle.listing.specs.Listing.{letter}
use Rattle.state_letters.specs.Letters.{state_of}
use Rattle.trace_texts.specs.Words.{Word}
use Rattle.trace_texts.specs.Texts.{is_changed, tells, named, none, time_bound, is_time}
use borrow.Author.Tests.{lt-ltb}
use Rattle.alf.specs.Names.{is_decimal}
use Rattle.figures.specs.Numbers.{decimal}
use Rattle.figures.proofs.Digits.{decimal_read, decimal_length, width_some}
use Rattle.trace_text_laws.proofs.WordBytes.{Digit, digit_is, decimal_digits}

abbrev pub bytes_of : List Word → List (List ℕ)
bytes_of ws = map (λ (w : Word). w.bytes) ws

pub bytes_at : (ws : List Word) (i : ℕ) → (get_or ws i none).bytes ≡ get_or (bytes_of ws) i []
bytes_at [] i = refl
bytes_at (w ∷ ws) zero = refl
bytes_at (w ∷ ws) (suc i) = bytes_at ws i

changed_is : is_changed (bytes "changed") ≡ true
unfolding is_changed same bytes
changed_is = refl

or_true : (b : Bool) → (b || true) ≡ true
or_true true = refl
or_true false = refl

and_false : (b : Bool) → (b && false) ≡ false
and_false true = refl
and_false false = refl

pub tells_last : (ns : List (List ℕ)) (ws : List Word) → bytes_of ws ≡ ns ++ (bytes "changed" ∷ []) → tells ws ≡ true
unfolding tells
tells_last [] [] e = let z : ◌≡◌ {A = ℕ} 0 1 = cc in absurd (omega arith)
tells_last [] (w ∷ ws) e =
    let h : w.bytes ≡ bytes "changed" = cc in
    rw (h, changed_is) refl
tells_last (n ∷ ns) [] e = let z : ◌≡◌ {A = ℕ} 0 1 = cc in absurd (omega arith)
tells_last (n ∷ ns) (w ∷ ws) e =
    let t : bytes_of ws ≡ ns ++ (bytes "changed" ∷ []) = cc in
    rw (tells_last ns ws t) (or_true (is_changed w.bytes))

pub named_before : (ns : List (List ℕ)) (ws : List Word) → bytes_of ws ≡ ns ++ (bytes "changed" ∷ [])
    → bytes_of (named ws) ≡ ns
unfolding named tells
named_before [] [] e = let z : ◌≡◌ {A = ℕ} 0 1 = cc in absurd (omega arith)
named_before [] (w ∷ []) e =
    let h : w.bytes ≡ bytes "changed" = cc in
    rw (h, changed_is) refl
named_before [] (w ∷ v ∷ ws) e = let z : ◌≡◌ {A = ℕ} 0 1 = cc in absurd (omega arith)
named_before (n ∷ ns) [] e = let z : ◌≡◌ {A = ℕ} 0 1 = cc in absurd (omega arith)
named_before (n ∷ ns) (w ∷ ws) e =
    let t : bytes_of ws ≡ ns ++ (bytes "changed" ∷ []) = cc in
    let h : w.bytes ≡ n = cc in
    let i = named_before ns ws t in
    rw (tells_last ns ws t, and_false (is_changed w.bytes)) (cc)

pub letter_code : (c : ℕ) → c ≤ 7 → state_of (letter c) ≡ c
unfolding state_of letter among bytes
letter_code zero h = refl
letter_code (suc zero) h = refl
letter_code (suc (suc zero)) h = refl
letter_code (suc (suc (suc zero))) h = refl
letter_code (suc (suc (suc (suc zero)))) h = refl
letter_code (suc (suc (suc (suc (suc zero))))) h = refl
letter_code (suc (suc (suc (suc (suc (suc zero)))))) h = refl
letter_code (suc (suc (suc (suc (suc (suc (suc zero))))))) h = refl
letter_code (suc (suc (suc (suc (suc (suc (suc (suc c)))))))) h = absurd (omega arith)

pub bytes_behind : (ws : List Word) → bytes_of (drop 1 ws) ≡ drop 1 (bytes_of ws)
bytes_behind [] = refl
bytes_behind (w ∷ ws) = refl

-- a number below the bound is a time
all_decimal : {ds : List ℕ} → All Digit ds → all is_decimal ds ≡ true
unfolding all
all_decimal All.none = refl
all_decimal (All.more g a) = rw (digit_is g, all_decimal a) refl

pub decimal_time : (t : ℕ) → t < time_bound → is_time (decimal t) ≡ true
unfolding is_time
decimal_time t h =
    rw (
      lt-ltb 0 (length (decimal t)) (omega (arith, decimal_length t, width_some t)),
      all_decimal (decimal_digits t),
      decimal_read t (omega arith),
      lt-ltb t time_bound h,
    )
    refl
