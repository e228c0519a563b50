-- A written token, with nothing or a blank behind it, is the longest token there: names, and with them all tokens.
--   Known            a token that can be written
--   name_taken       a name is the longest token there
--   spelled_taken    so is every token that can be written
use Prim.Native.Nat.{ℕ, suc, ◌/◌, ◌<◌, ◌≤◌}
use native.Mathlib.Omega.{arith}
use mathlib.Core.Path.{◌≡◌, refl}
use mathlib.Core.Bool.{true}
use mathlib.Core.List.{List, [], ◌∷◌, ◌++◌}
use lib.ListN.{length}
use borrow.Author.Tests.{ltb-true, ne_eqb, le-leb}
use Rattle.basics.specs.Words.{all}
use Rattle.alf.specs.Names.{is_letter, is_decimal, starts_name, goes_on_name, is_name, name_at}
use Rattle.basics.proofs.Bools.{never, and_left, and_right}
use Rattle.alf.proofs.NameBytes.{starts_goes_on}
use Rattle.token_steps.specs.Taking.{name_bytes, Taken}
use Rattle.token_steps.specs.Steps.{name_step, step_of, step}
use Rattle.grammar.specs.declared.Token.{Token}
use Rattle.spelling.specs.Spelled.{sign_spelled, spelled}
use Rattle.spelling.proofs.LongestSigns.{Behind, end, blank, taken_by_step, Sign, sign_taken}

-- the name bytes together are those of the name
behind_none : {rest : List ℕ} → Behind rest → name_bytes rest ≡ 0
unfolding name_bytes goes_on_name starts_name is_letter is_decimal
behind_none end = refl
behind_none blank = refl

all_bytes : (w : List ℕ) {rest : List ℕ} → Behind rest → all goes_on_name w ≡ true
    → name_bytes (w ++ rest) ≡ length w
unfolding name_bytes all
all_bytes [] b h = behind_none b
all_bytes (x ∷ w) b h =
    rw (and_left (goes_on_name x) _ h, all_bytes w b (and_right (goes_on_name x) _ h))

pub name_bytes_lem : (b : ℕ) (w : List ℕ) {rest : List ℕ} → Behind rest → is_name (b ∷ w) ≡ true
    → name_bytes (b ∷ (w ++ rest)) ≡ suc (length w)
unfolding is_name all
name_bytes_lem b w k h =
    let s = starts_goes_on b (and_left (starts_name b) _ h) in
    all_bytes (b ∷ w) k (rw s (and_left (all goes_on_name w) _ (and_right (starts_name b) _ h)))

name_size_lem : (b : ℕ) (w : List ℕ) → is_name (b ∷ w) ≡ true → length w < 32
unfolding is_name
name_size_lem b w h = ltb-true _ 32 (and_right (all goes_on_name w) _ (and_right (starts_name b) _ h))

name_step_lem : (b : ℕ) (w : List ℕ) {rest : List ℕ} → Behind rest → is_name (b ∷ w) ≡ true
    → step_of (b ∷ (w ++ rest)) ≡ step 0 (suc (length w))
unfolding step_of name_step is_name
name_step_lem b w k h =
    let s : suc (length w) ≤ 32 = name_size_lem b w h in
    rw (and_left (starts_name b) _ h, name_bytes_lem b w k h, le-leb _ _ s)

pub name_taken : (w : List ℕ) {rest : List ℕ} → Behind rest → is_name w ≡ true → Taken (w ++ rest) w 0 rest
unfolding is_name
name_taken [] b h = never h
name_taken (x ∷ w) {rest} b h =
    let e = name_step_lem x w b h in
    taken_by_step (x ∷ w) rest 0 (omega arith) e

-- a token that can be written: a name of the list, or a sign
pub data Known (names : List ℕ) (t : Token) : Type 0 where
  a_name : t.code ≡ 0 → t.place < length names / 32 → is_name (name_at names t.place) ≡ true
      → Known names t
  a_sign : Sign t.code → Known names t

pub sign_positive : {c : ℕ} → Sign c → 0 < c
sign_positive (Sign.low l u) = omega arith
sign_positive (Sign.high l u) = omega arith

pub spelled_name : (names : List ℕ) (t : Token) → t.code ≡ 0 → spelled names t ≡ name_at names t.place
unfolding spelled
spelled_name names t h = rw h

pub spelled_sign : (names : List ℕ) (t : Token) → Sign t.code → spelled names t ≡ sign_spelled t.code
unfolding spelled
spelled_sign names t s = let z = ne_eqb t.code 0 (λ e. omega (arith, sign_positive s)) in rw z

pub spelled_taken : {names rest : List ℕ} {t : Token} → Known names t → Behind rest
    → Taken (spelled names t ++ rest) (spelled names t) t.code rest
spelled_taken {names} {rest} {t} (a_name e l h) b =
    rw (spelled_name names t e, e) (name_taken (name_at names t.place) b h)
spelled_taken {names} {rest} {t} (a_sign s) b = rw (spelled_sign names t s) (sign_taken b s)
