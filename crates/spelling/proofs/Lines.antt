-- The line of some tokens' signs is their text, and fits where it is written.
--   signs_spellable   the signs of tokens that can be written can be spelled
--   line_text         their line is the tokens' text
--   text_short        a text has at most 33 bytes for each token
use Rattle.std.specs.Prelude.{if◌then◌else◌}
use Prim.Native.Nat.{ℕ, zero, suc, ◌*◌, ◌/◌, ◌<◌, ◌≤◌}
use native.Mathlib.Omega.{arith}
use mathlib.Core.Path.{◌≡◌, refl}
use mathlib.Core.Bool.{Bool, true, false}
use mathlib.Core.List.{List, [], ◌∷◌, map}
use lib.Dec.{eqb, ltb}
use lib.ListN.{length, get_or, take, drop, length-append, length-take}
use borrow.Author.Tests.{ltb-true, lt-ltb, le-ltb, ne_eqb}
use Rattle.alf.specs.Names.{until_zero, slot, name_at}
use Rattle.basics.proofs.Ranges.{all_from, all_from_law}
use Rattle.grammar.specs.declared.Token.{Token}
use Rattle.spelling.specs.Spelled.{half_byte, literal_spelled, pair_spelled, operators, marks, prefixes, sign_spelled}
use Rattle.spelling.specs.Spelled.{spelled, following, text_of_lem}
use Rattle.spelling.specs.Signs.{sign, word, line_from}
use Rattle.spelling.specs.Inner.{Spellable}
use Rattle.spelling.proofs.LongestSigns.{Sign, low, high, sign_small}
use Rattle.spelling.proofs.LongestWords.{Known, a_name, a_sign, sign_positive, spelled_name, spelled_sign}
use Rattle.spelling.proofs.Steps.{gap_some}
use Rattle.spelling.proofs.Reading.{AllKnown, none, more}

sign_name : (t : Token) → t.code ≡ 0 → sign t ≡ t.place
unfolding sign
sign_name t e = rw e

sign_code : (t : Token) → 0 < t.code → sign t ≡ t.code
unfolding sign
sign_code t h = rw (ne_eqb t.code 0 (λ e. omega arith))

sign_spellable : {names : List ℕ} {c : ℕ} → Sign c → Spellable names c
sign_spellable (low l u) =
    record { named = λ k. absurd (omega arith); known = omega arith; apart = λ k. absurd (omega arith) }
sign_spellable (high l u) = record { named = λ k. absurd (omega arith); known = u; apart = λ k. l }

sign_large : {c : ℕ} → Sign c → 32 ≤ c
sign_large (low l u) = l
sign_large (high l u) = omega arith

module _ {names : List ℕ} (few : length names / 32 ≤ 32) where
  known_spellable : {t : Token} → Known names t → Spellable names (sign t)
  known_spellable {t} (a_name e l h) =
      rw (sign_name t e)
      (record { named = λ k. omega arith; known = omega arith; apart = λ k. absurd (omega arith) })
  known_spellable {t} (a_sign s) = rw (sign_code t (sign_positive s)) (sign_spellable s)

  pub signs_spellable : {ts : List Token} → AllKnown names ts → (i : ℕ) → i < length (map sign ts)
      → Spellable names (get_or (map sign ts) i 0)
  signs_spellable none i h = absurd (omega arith)
  signs_spellable (more k a) zero h = known_spellable k
  signs_spellable (more k a) (suc i) h = signs_spellable a i (omega arith)

  word_spelled : {t : Token} → Known names t → word names (sign t) ≡ spelled names t
  unfolding word
  word_spelled {t} (a_name e l h) =
      let k : t.place < 32 = omega arith in rw (sign_name t e, spelled_name names t e, lt-ltb t.place 32 k)
  word_spelled {t} (a_sign s) =
      rw (sign_code t (sign_positive s), spelled_sign names t s, le-ltb t.code 32 (sign_large s))

  line_following : (i : ℕ) {ts : List Token} → AllKnown names ts
      → line_from names (suc i) (map sign ts) ≡ following names ts
  unfolding line_from following
  line_following i none = refl
  line_following i (more k a) =
      rw (gap_some (suc i) (λ e. absurd (omega arith)), word_spelled k, line_following (suc i) a) refl

  pub line_text : {ts : List Token} → AllKnown names ts → line_from names 0 (map sign ts) ≡ text_of_lem names ts
  unfolding line_from text_of_lem
  line_text none = refl
  line_text (more k a) = rw (word_spelled k, line_following 0 a)

-- a word has at most 32 bytes
until_short : (xs : List ℕ) → length (until_zero xs) ≤ length xs
unfolding until_zero
until_short [] = omega arith
until_short (x ∷ xs) = go (eqb x 0) (until_short xs)
  where
    go : (b : Bool) → length (until_zero xs) ≤ length xs
        → length (if b then [] else x ∷ until_zero xs) ≤ suc (length xs)
    go true h = omega arith
    go false h = omega arith

name_short : (names : List ℕ) (i : ℕ) → length (name_at names i) ≤ 32
unfolding slot
name_short names i = omega (arith, until_short (take 32 (drop (i * 32) names)), length-take 32 (drop (i * 32) names))

short_sign : ℕ → Bool
short_sign c = ltb (length (sign_spelled c)) 33

signs_short : all_from short_sign 32 116 ≡ true
unfolding short_sign sign_spelled literal_spelled pair_spelled half_byte operators marks prefixes
signs_short = refl

sign_short : (c : ℕ) → 32 ≤ c → c < 148 → length (sign_spelled c) ≤ 32
unfolding short_sign
sign_short c l u =
    let h : length (sign_spelled c) < 33 =
    ltb-true _ 33 (all_from_law short_sign 32 116 c signs_short l (omega arith)) in
    omega arith

spelled_short : {names : List ℕ} {t : Token} → Known names t → length (spelled names t) ≤ 32
spelled_short {names} {t} (a_name e l h) = rw (spelled_name names t e) (name_short names t.place)
spelled_short {names} {t} (a_sign s) =
    rw (spelled_sign names t s) (sign_short t.code (sign_large s) (sign_small s))

following_short : {names : List ℕ} {ts : List Token} → AllKnown names ts
    → length (following names ts) ≤ 33 * length ts
unfolding following
following_short none = omega arith
following_short {names} (more {t = t} {ts = ts} k a) =
    omega (
      arith,
      length-append (spelled names t) (following names ts),
      spelled_short k,
      following_short a,
    )

pub text_short : {names : List ℕ} {ts : List Token} → AllKnown names ts
    → length (text_of_lem names ts) ≤ 33 * length ts
unfolding text_of_lem
text_short none = omega arith
text_short {names} (more {t = t} {ts = ts} k a) =
    omega (
      arith,
      length-append (spelled names t) (following names ts),
      spelled_short k,
      following_short a,
    )
