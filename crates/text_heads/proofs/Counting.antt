-- The names of a head, counted word by word.
--   count_left, tells_left     how many names there are, and whether a `changed` ends them, where i words are passed
--   Counting, counting_first, counting_next, counted     the words before the i-th are passed
--   marked, unmarked           what a word makes of the last `changed`
use Rattle.std.specs.Prelude.{if◌then◌else◌, Option, Some, None, is_some}
use Rattle.std.specs.Option.{unwrap_or}
use Prim.Native.Nat.{ℕ, ◌+◌, ◌-◌, ◌<◌, ◌≤◌}
use native.Mathlib.Omega.{arith}
use native.Mathlib.Numerals.{add-one}
use mathlib.Core.Path.{◌≡◌, refl, sym, ap, ◌∙◌}
use mathlib.Core.Bool.{Bool, true, false}
use mathlib.Core.List.{List, [], ◌∷◌}
use lib.ListN.{length, get_or, take, drop, drop_of_length-le}
use lib.Seq.{drop-cons}
use Rattle.trace_texts.specs.Words.{Word}
use Rattle.trace_texts.specs.Texts.{is_changed, tells, named, none, name_words, wide}
use Rattle.trace_texts.specs.Finding.{from, Finds}
use Rattle.trace_texts.proofs.WordOf.{word_of, no_word}
use Rattle.trace_texts.proofs.OnAndOn.{finds_on, words_few}
use Rattle.text_heads.specs.Heads.{CountsNames}

-- so many names there are, where i words are passed, of which the last `changed` stands behind so many, and these are
-- left
unfoldable pub count_left : ℕ → Option ℕ → List Word → ℕ
count_left i None left = i + length (named left)
count_left i (Some m) left = if tells left then i + length (named left) else m

unfoldable pub tells_left : Option ℕ → List Word → Bool
tells_left None left = tells left
tells_left (Some m) left = true

-- one word more
module _ (i : ℕ) (last : Option ℕ) (w : Word) (ws : List Word) where
  abbrev next : Option ℕ
  next = if is_changed w.bytes then Some i else last

  pub count_step : count_left i last (w ∷ ws) ≡ count_left (i + 1) next ws
  unfolding count_left tells named
  count_step = go last (is_changed w.bytes) (tells ws) refl refl
    where
      go : (o : Option ℕ) (x y : Bool) → is_changed w.bytes ≡ x → tells ws ≡ y
          → count_left i o (w ∷ ws) ≡ count_left (i + 1) (if is_changed w.bytes then Some i else o) ws
      go None true true e f = rw (e, f) (omega arith)
      go None true false e f = rw (e, f) (omega arith)
      go None false y e f = rw e (omega arith)
      go (Some m) true true e f = rw (e, f) (omega arith)
      go (Some m) true false e f = rw (e, f) (omega arith)
      go (Some m) false true e f = rw (e, f) (omega arith)
      go (Some m) false false e f = rw (e, f) refl

  pub tells_step : tells_left last (w ∷ ws) ≡ tells_left next ws
  unfolding tells_left tells
  tells_step = go last (is_changed w.bytes) refl
    where
      go : (o : Option ℕ) (x : Bool) → is_changed w.bytes ≡ x
          → tells_left o (w ∷ ws) ≡ tells_left (if is_changed w.bytes then Some i else o) ws
      go None true e = rw e refl
      go None false e = rw e refl
      go (Some m) true e = rw e refl
      go (Some m) false e = rw e refl

pub record Counting (text : List ℕ) (p i : ℕ) (last : Option ℕ) (start end : ℕ) : Type 0 where
  pub found : Finds text p (i + 1) start end
  pub count :
      length (name_words (from text p).first) ≡ count_left i last (drop (i + 1) (from text p).first.words)
  pub telling : wide (from text p).first ≡ tells_left last (drop (i + 1) (from text p).first.words)

pub counting_first : {text : List ℕ} {p s e : ℕ} → Finds text p 1 s e → Counting text p 0 None s e
unfolding count_left tells_left
counting_first {text} {p} g = record { found = g; count = omega arith; telling = refl }

module _ {text : List ℕ} {p i : ℕ} {last : Option ℕ} {s e : ℕ} (g : Counting text p i last s e) where
  abbrev ws : List Word
  ws = (from text p).first.words

  pub counting_few : s < e → i + 1 < length text
  counting_few h = omega (arith, (word_of g.found h).0, words_few text p)

  pub counting_next : (m : Option ℕ) {s' e' : ℕ} → s < e
      → m ≡ (if is_changed (take (e - s) (drop s text)) then Some i else last) → Finds text s 1 s' e'
      → Counting text p (i + 1) m s' e'
  counting_next m h r f =
      let found = word_of g.found h in
      let split : drop (i + 1) ws ≡ get_or ws (i + 1) none ∷ drop (i + 1 + 1) ws =
      rw (add-one (i + 1)) (drop-cons ws (i + 1) none found.0) in
      let changed : is_changed (get_or ws (i + 1) none).bytes ≡ is_changed (take (e - s) (drop s text)) =
      ap (λ (w : Word). is_changed w.bytes) found.1 in
      let same : (if is_changed (get_or ws (i + 1) none).bytes then Some i else last) ≡ m =
      ap (λ (b : Bool). if b then Some i else last) changed ∙ sym r in
      record {
        found = finds_on g.found f;
        count =
            g.count ∙ ap (count_left i last) split
            ∙ count_step i last (get_or ws (i + 1) none) (drop (i + 1 + 1) ws)
            ∙ ap (λ (n : Option ℕ). count_left (i + 1) n (drop (i + 1 + 1) ws)) same;
        telling =
            g.telling ∙ ap (tells_left last) split
            ∙ tells_step i last (get_or ws (i + 1) none) (drop (i + 1 + 1) ws)
            ∙ ap (λ (n : Option ℕ). tells_left n (drop (i + 1 + 1) ws)) same;
      }

  ended : e ≤ s → drop (i + 1) ws ≡ []
  ended h = drop_of_length-le ws {i = i + 1} (no_word g.found h).0

  -- no word is left
  pub counted : e ≤ s → CountsNames (from text p).first (unwrap_or last i) (is_some last) s
  unfolding count_left tells_left tells named
  counted h =
      record {
        names = sym (g.count ∙ rw (ended h) (ends last));
        passing = sym (g.telling ∙ rw (ended h) (told last));
        ends = (no_word g.found h).1;
      }
    where
      ends : (o : Option ℕ) → count_left i o [] ≡ unwrap_or o i
      ends None = omega arith
      ends (Some m) = refl

      told : (o : Option ℕ) → tells_left o [] ≡ is_some o
      told None = refl
      told (Some m) = refl

-- a word looked at
pub marked : (i : ℕ) (last : Option ℕ) {b : Bool} (w : List ℕ) → b ≡ is_changed w → b ≡ true
    → Some i ≡ (if is_changed w then Some i else last)
marked i last w e t = rw (sym e ∙ t) refl

pub unmarked : (i : ℕ) (last : Option ℕ) {b : Bool} (w : List ℕ) → b ≡ is_changed w → b ≡ false
    → last ≡ (if is_changed w then Some i else last)
unmarked i last w e f = rw (sym e ∙ f) refl
