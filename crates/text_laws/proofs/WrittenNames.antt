-- The names of a written text: at the byte of a name's token stands the name, and its number is found.
--   name_stands     the name bytes that stand together are the name's
--   placed_numbered the tokens of a written text, with the numbers that are found, are the tokens that were written
--   none_unknown    so refusal 6 is not given
use Prim.Native.Nat.{ℕ, suc, ◌+◌, ◌<◌}
use native.Mathlib.Omega.{arith}
use mathlib.Core.Path.{◌≡◌, refl, sym, ap, ◌∙◌}
use mathlib.Core.Bool.{true}
use mathlib.Core.List.{List, [], ◌∷◌, ◌++◌, map}
use lib.ListN.{length, take, drop}
use lib.Seq.{take_at, drop_at, drop-drop}
use borrow.Author.Tests.{eq-eqb, ne_eqb}
use Rattle.alf.specs.Names.{names_in, is_name, name_at}
use Rattle.basics.proofs.Bools.{never}
use Rattle.basics.proofs.AllEntries.{All}
use Rattle.token_steps.specs.Taking.{name_bytes}
use Rattle.tokens.specs.Texts as texts
use Rattle.grammar.specs.declared.Token.{Token}
use Rattle.grammar.specs.Tokens.{tokens}
use Rattle.sorting.specs.Lookup.{word, number_at}
use Rattle.reader.specs.Texts.{tokens_of}
use Rattle.reader.specs.Reading.{Stands, here, there, Unknown}
use Rattle.sorting.proofs.SlotNumbers.{number_here}
use Rattle.spelling.specs.Spelled.{spelled, following, text_of_lem}
use Rattle.spelling.specs.TokenPlaces.{tokens_from}
use Rattle.writer.specs.Writing.{Named}
use Rattle.spelling.proofs.LongestSigns.{Behind}
use Rattle.spelling.proofs.LongestWords.{Known, a_name, a_sign, name_bytes_lem, sign_positive, spelled_name}
use Rattle.spelling.proofs.Reading.{AllKnown, none, more, following_behind}
use Rattle.writer.proofs.Calls.{names_new}
use Rattle.text_laws.proofs.Renumbering.{placed_by, renumbered}

-- the name bytes that stand together are the name's
name_stands : (w : List ℕ) {rest : List ℕ} → Behind rest → is_name w ≡ true
    → take (name_bytes (w ++ rest)) (w ++ rest) ≡ w
unfolding is_name
name_stands [] b h = never h
name_stands (x ∷ w) {rest} b h = rw (name_bytes_lem x w b h) (take_at (x ∷ w) rest (suc (length w)) refl)

-- behind a token, and a blank where more follow
following_rest : (names : List ℕ) (ts : List Token) → drop 1 (following names ts) ≡ text_of_lem names ts
unfolding following text_of_lem
following_rest names [] = refl
following_rest names (t ∷ ts) = refl

rest_stands : (names text : List ℕ) (p : ℕ) (t : Token) (ts : List Token)
    → drop p text ≡ spelled names t ++ following names ts
    → drop (suc (p + length (spelled names t))) text ≡ text_of_lem names ts
rest_stands names text p t ts h =
    let w = spelled names t in
    let e : suc (p + length w) ≡ p + length w + 1 = omega arith in
    ap (λ (n : ℕ). drop n text) e
    ∙ sym (drop-drop 1 (p + length w) text)
    ∙ ap (drop 1)
    (sym (drop-drop (length w) p text) ∙ ap (drop (length w)) h ∙ drop_at w (following names ts) _ refl)
    ∙ following_rest names ts

-- a slot holds the name that stands at byte p
record Held (names text : List ℕ) (p : ℕ) : Type 0 where
  slot : ℕ
  within : slot < names_in names
  is : name_at names slot ≡ word text p

stands_held : {names text : List ℕ} {q : ℕ} {us : List texts.Token} → Stands q us
    → All (λ (u : texts.Token). u.code ≡ 0 → Held names text u.place) us → Held names text q
stands_held here (All.more h a) = h refl
stands_held (there s) (All.more h a) = stands_held s a

module _ {names : List ℕ} (h : Named names) (text : List ℕ) where
  word_stands : (p : ℕ) (t : Token) (ts : List Token) → t.code ≡ 0 → is_name (name_at names t.place) ≡ true
      → drop p text ≡ spelled names t ++ following names ts → word text p ≡ name_at names t.place
  unfolding word
  word_stands p t ts e k d =
      rw (d, spelled_name names t e) (name_stands (name_at names t.place) (following_behind names ts) k)

  number_stands : (p : ℕ) (t : Token) (ts : List Token) → t.code ≡ 0 → t.place < names_in names
      → is_name (name_at names t.place) ≡ true → drop p text ≡ spelled names t ++ following names ts
      → number_at names text p ≡ t.place
  number_stands p t ts e l k d =
      let w = word_stands p t ts e k d in
      sym (number_here names (word text p) t.place l (sym w) (λ j i q. names_new h t.place l j i (q ∙ w)))

  token_numbered : (p : ℕ) (t : Token) (ts : List Token) → Known names t
      → drop p text ≡ spelled names t ++ following names ts
      → renumbered (number_at names text) (record { code = t.code; place = p }) ≡ renumbered (λ k. k) t
  unfolding placed_by
  token_numbered p t ts (a_name e l k) d =
      rw (eq-eqb t.code 0 e)
      (ap (λ (i : ℕ). record { code = t.code; place = i }) (number_stands p t ts e l k d))
  token_numbered p t ts (a_sign s) d = rw (ne_eqb t.code 0 (λ e. omega (arith, sign_positive s))) refl

  pub placed_numbered : (p : ℕ) {ts : List Token} → AllKnown names ts → drop p text ≡ text_of_lem names ts
      → map (renumbered (number_at names text)) (tokens_of (tokens_from names p ts)) ≡ map (renumbered (λ k. k)) ts
  unfolding tokens_from text_of_lem tokens
  placed_numbered p none d = refl
  placed_numbered p (more {t = t} {ts = ts} k a) d =
      let e = token_numbered p t ts k d in
      let f = placed_numbered (suc (p + length (spelled names t))) a (rest_stands names text p t ts d) in cc

  -- each name that stands there is one of the list
  token_held : (p : ℕ) (t : Token) (ts : List Token) → Known names t
      → drop p text ≡ spelled names t ++ following names ts → t.code ≡ 0 → Held names text p
  token_held p t ts (a_name e l k) d z =
      record { slot = t.place; within = l; is = sym (word_stands p t ts e k d) }
  token_held p t ts (a_sign s) d z = absurd (omega (arith, sign_positive s))

  placed_held : (p : ℕ) {ts : List Token} → AllKnown names ts → drop p text ≡ text_of_lem names ts
      → All (λ (u : texts.Token). u.code ≡ 0 → Held names text u.place) (tokens_from names p ts)
  unfolding tokens_from text_of_lem
  placed_held p none d = All.none
  placed_held p (more {t = t} {ts = ts} k a) d =
      All.more {x = texts.token_at t.code p} (token_held p t ts k d)
      (placed_held (suc (p + length (spelled names t))) a (rest_stands names text p t ts d))

  pub none_unknown : {ts : List Token} → AllKnown names ts → text ≡ text_of_lem names ts
      → (q : ℕ) → Unknown names text (tokens_from names 0 ts) q → ⊥
  none_unknown a d q u =
      let s = stands_held u.stands (placed_held 0 a d) in u.missing s.slot s.within s.is
