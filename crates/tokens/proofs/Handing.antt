-- What `read_tokens` hands over, from what `scan` gives and what the limits say.
--   stopped_reading   refused with 2
--   Whole, whole_of   the text's tokens, as they were written
--   counting          they can be counted
--   deep_reading, many_reading, whole_reading   refused with 3, with 4, or read
use Rattle.std.specs.Prelude.{Ok, Err, Option, Some, None}
use Rattle.basics.specs.declared.Refusal.{Refusal}
use mathlib.Core.Path.{◌≡◌, refl, ap, ◌∙◌}
use mathlib.Core.Bool.{Bool, true, false}
use mathlib.Core.List.{List}
use Prim.Native.Nat.{ℕ, ◌≤◌, ◌<◌}
use native.Mathlib.Omega.{arith}
use lib.ListN.{length, take, get_or, length-append}
use Rattle.basics.specs.Refusing.{refusal}
use Rattle.tokens.specs.declared.Tokens.{Tokens}
use Rattle.tokens.specs.Texts.{Token, Reads}
use Rattle.tokens.specs.Texts.Reads.{done, blank, token}
use Rattle.tokens.specs.Tokenizing.{filled, codes_of, places_of, made, Tokenized}
use Rattle.tokens.specs.Inner.{Scan, Counting, changed, over_at, over_found}
use Rattle.tokens.specs.Inner.Scan.{stopped, whole}
use Rattle.tokens.proofs.Counts.{here_found, none_found}
use Rattle.token_steps.proofs.TokenStarts.{token_size}
use Rattle.tokens.proofs.Filling.{filled_front, filled_at, filled_holds, column_length}
use Rattle.tokens.proofs.ReadingLaws.{read_stuck, read_deep, read_many, read_whole}

pub stopped_reading : {text : List ℕ} {r : Refusal} → length text ≤ 4096 → Scan text (Err r) → Tokenized text (Err r)
stopped_reading {text} l (stopped q s) = read_stuck text l s

pub record Whole (text : List ℕ) (t : Tokens) : Type 0 where
  pub tokens : List Token
  pub read : Reads 0 text tokens
  pub count_is : t.count ≡ length tokens
  pub codes_are : t.codes ≡ filled (codes_of tokens)
  pub places_are : t.places ≡ filled (places_of tokens)
  pub is : t ≡ made tokens

pub whole_of : {text : List ℕ} {t : Tokens} → Scan text (Ok t) → Whole text t
unfolding made
whole_of (whole ts r) =
    record { tokens = ts; read = r; count_is = refl; codes_are = refl; places_are = refl; is = refl }

-- no more tokens than bytes
pub reads_short : {p : ℕ} {bs : List ℕ} {ts : List Token} → Reads p bs ts → length ts ≤ length bs
reads_short done = omega arith
reads_short (blank h r) = let k = reads_short r in omega arith
reads_short (token h t r) =
    let k = reads_short r in
    let j = token_size t.token in omega (arith, simp length-append at (ap length t.there))

module _ {text : List ℕ} {t : Tokens} (l : length text ≤ 4096) (w : Whole text t) where
  bound : t.count ≤ 4096
  bound = let k = reads_short w.read in omega (arith, w.count_is)

  pub counting : (limit : ℕ) → limit ≤ 4096 → Counting t.codes t.count limit
  counting limit h =
      record {
        inside = bound;
        there =
            rw (w.codes_are, w.count_is, ← column_length (λ t. t.code) w.tokens)
            (filled_holds (codes_of w.tokens));
        below = h;
      }

  -- the codes that are searched are those of the tokens
  front : take t.count t.codes ≡ codes_of w.tokens
  front = rw (w.count_is, w.codes_are) (filled_front (λ t. t.code) w.tokens)

  place_at : (i : ℕ) → i < t.count → get_or t.places i 0 ≡ get_or (places_of w.tokens) i 0
  place_at i h =
      let n = column_length (λ t. t.place) w.tokens in
      rw w.places_are (filled_at (places_of w.tokens) i (omega (arith, w.count_is)))

  abbrev over : Bool → ℕ → Option ℕ
  over b limit = over_found (changed b) limit (take t.count t.codes)

  many : length (take t.count t.codes) ≡ t.count
  many = rw front (omega (arith, w.count_is, column_length (λ t. t.code) w.tokens))

  abbrev first : Bool → ℕ → ℕ
  first b limit = over_at (changed b) limit 0 (codes_of w.tokens)

  module _ {i : ℕ} (b : Bool) (limit : ℕ) (e : Some i ≡ over b limit) where
    within : i < t.count
    within = let k = here_found (changed b) limit (take t.count t.codes) e in omega (arith, k.1, many)

    index : i ≡ first b limit
    index =
        let k = here_found (changed b) limit (take t.count t.codes) e in
        k.0 ∙ ap (over_at (changed b) limit 0) front

  pub deep_reading :
      {i : ℕ} {r : Refusal} →
      Some i ≡ over true 32 →
      r ≡ refusal 3 (get_or t.places i 0) →
      Tokenized text (Err r)
  deep_reading {i} e f =
      let h = within true 32 e in
      rw (f, place_at i h, index true 32 e)
      (read_deep text l w.read (rw (← index true 32 e) (omega (arith, w.count_is))))

  -- no token goes over
  never : (b : Bool) (limit : ℕ) → None ≡ over b limit → length w.tokens ≤ first b limit
  never b limit e =
      let k = none_found (changed b) limit (take t.count t.codes) e in
      let j = ap (over_at (changed b) limit 0) front in omega (arith, many, w.count_is)

  module _ (no : None ≡ over true 32) where
    pub many_reading :
        {i : ℕ} {r : Refusal} →
        Some i ≡ over false 256 →
        r ≡ refusal 4 (get_or t.places i 0) →
        Tokenized text (Err r)
    many_reading {i} e f =
        let h = within false 256 e in
        rw (f, place_at i h, index false 256 e)
        (read_many text l w.read (never true 32 no) (rw (← index false 256 e) (omega (arith, w.count_is))))

    pub whole_reading : None ≡ over false 256 → Tokenized text (Ok t)
    whole_reading e = rw w.is (read_whole text l w.read (never true 32 no) (never false 256 e))
