-- Names and codes, copied one after the other.
--   joined_flat                                     parts put together, said in two ways
--   Copied, copied_first, slot_fits, copied_next, copied_all     names
--   word_bytes, codes_long, codes_next, codes_put                codes
use Prim.Native.Nat.{ℕ, zero, suc, ◌+◌, ◌-◌, ◌<◌, ◌≤◌}
use native.Mathlib.Omega.{arith}
use native.Mathlib.Nat.{zero-add}
use native.Mathlib.Numerals.{add-one}
use mathlib.Core.Path.{◌≡◌, refl, sym, ap, ◌∙◌}
use mathlib.Core.Logic.{◌⊎◌, inl, inr}
use mathlib.Core.List.{List, [], ◌∷◌, ◌++◌, map}
use lib.ListN.{length, get_or, take, drop, set, drop_of_length-le}
use lib.Seq.{drop-cons}
use Rattle.basics.specs.Text.{joined}
use Rattle.basics.specs.Memory.{Put, front}
use Rattle.basics.proofs.Bools.{below?}
use Rattle.basics.proofs.Listed.{listed_length, listed_at}
use Rattle.basics.proofs.Stores.{Writing, writing_next, writing_end}
use Rattle.basics.proofs.PartByPart.{flat, Going, going_start, going_room, going_on, going_end, put_front}
use Rattle.alf.specs.Names.{slot_of}
use Rattle.record_copies.specs.HeldLists.{SlotFits}
use Rattle.record_copies.proofs.Copying.{slot_length}
use Rattle.trace_texts.specs.Words.{Word, Line}
use Rattle.trace_texts.specs.Texts.{none, name_words, code_of, state_word, names_made}
use Rattle.trace_texts.specs.Finding.{from, Finds}
use Rattle.trace_texts.proofs.WordOf.{word_of, no_word}
use Rattle.trace_texts.proofs.OnAndOn.{finds_on}
use Rattle.text_heads.proofs.NewNames.{name_word}
use Rattle.text_copies.specs.Copies.{NamesFit, codes_at}

pub joined_flat : (l : List (List ℕ)) → joined l ≡ flat l
unfolding joined
joined_flat [] = refl
joined_flat (w ∷ l) = ap (λ (x : List ℕ). w ++ x) (joined_flat l)

abbrev slot_for : Word → List ℕ
slot_for w = slot_of w.bytes

-- the first i names are copied
pub record Copied (text : List ℕ) (p k i start end : ℕ) (out₀ out : List ℕ) (at : ℕ) : Type 0 where
  pub within : i ≤ k
  pub found : Finds text p (i + 1) start end
  pub going :
      Going out₀ 0 (names_made (from text p).first) (map slot_for (drop i (name_words (from text p).first))) out at

pub copied_first : {text : List ℕ} {p k s e : ℕ} {out : List ℕ} → NamesFit text p k out → Finds text p 1 s e
    → Copied text p k 0 s e out out 0
unfolding names_made
copied_first {text} {p} n f =
    let names = name_words (from text p).first in
    record {
      within = omega arith;
      found = f;
      going = going_start (map slot_for names) (joined_flat (map slot_for names)) (omega (arith, n.room));
    }

module _ {text : List ℕ} {p k i s e at : ℕ} {out₀ out : List ℕ} (n : NamesFit text p k out₀)
    (g : Copied text p k i s e out₀ out at) where
  abbrev names : List Word
  names = name_words (from text p).first

  pub copied_all : k ≤ i → out ≡ front (names_made (from text p).first) out₀
  copied_all h =
      let none_left : drop i names ≡ [] = drop_of_length-le names {i = i} (omega (arith, h, n.counted)) in
      let whole = rw none_left at g.going in
      put_front (going_end whole) n.room

  module _ (h : i < k) where
    named : i < length names
    named = omega (arith, h, n.counted)

    is : (get_or names i none).bytes ≡ take (e - s) (drop s text)
    is = ap (λ (w : Word). w.bytes) (name_word named g.found)

    turn : Going out₀ 0 (names_made (from text p).first)
        (slot_of (take (e - s) (drop s text)) ∷ map slot_for (drop (suc i) names)) out at
    turn =
        let split : drop i names ≡ get_or names i none ∷ drop (suc i) names = drop-cons names i none named in
        let going = rw split at g.going in
        rw is at going

    pub slot_fits : SlotFits (take (e - s) (drop s text)) out at
    slot_fits =
        record {
          few = rw (sym is) (n.short i h);
          room = omega (arith, going_room turn, slot_length (take (e - s) (drop s text)));
        }

    pub copied_next : {out' : List ℕ} {at' s' e' : ℕ} → Put out at (slot_of (take (e - s) (drop s text))) out' at'
        → Finds text s 1 s' e' → Copied text p k (i + 1) s' e' out₀ out' at'
    copied_next u f =
        record {
          within = omega arith;
          found = finds_on g.found f;
          going = rw (add-one i) (going_on turn u);
        }

-- the bytes that are found are those of the word, and none where there is no word
past : (ws : List Word) (n : ℕ) → length ws ≤ n → get_or ws n none ≡ none
past [] n h = refl
past (w ∷ ws) zero h = absurd (omega arith)
past (w ∷ ws) (suc n) h = past ws n (omega arith)

pub word_bytes : {text : List ℕ} {p n s e : ℕ} → Finds text p n s e
    → (get_or (from text p).first.words n none).bytes ≡ take (e - s) (drop s text)
word_bytes {text} {p} {n} {s} {e} g = go (below? s e)
  where
    go : (s < e) ⊎ (e ≤ s) → (get_or (from text p).first.words n none).bytes ≡ take (e - s) (drop s text)
    go (inl h) = ap (λ (w : Word). w.bytes) (word_of g h).1
    go (inr h) =
        let z : e - s ≡ 0 = omega arith in
        ap (λ (w : Word). w.bytes) (past (from text p).first.words n (no_word g h).0)
        ∙ sym (ap (λ (m : ℕ). take m (drop s text)) z)

pub codes_long : (k : ℕ) (row : Line) → length (codes_at k row) ≡ k
codes_long k row = listed_length 0 k (λ i. code_of (state_word row i).bytes)

code_is : {text : List ℕ} {p k i s e v : ℕ} → i < k → Finds text p (i + 1) s e
    → v ≡ code_of (take (e - s) (drop s text)) → v ≡ get_or (codes_at k (from text p).first) i 0
code_is {text} {p} {k} {i} h f e =
    let at : get_or (codes_at k (from text p).first) i 0 ≡ code_of (state_word (from text p).first i).bytes =
    listed_at 0 k i (λ j. code_of (state_word (from text p).first j).bytes) 0 h
    ∙ ap (λ (j : ℕ). code_of (state_word (from text p).first j).bytes) (zero-add i) in
    e ∙ sym (ap code_of (word_bytes f)) ∙ sym at

pub codes_next : (text : List ℕ) (p k i at : ℕ) {s e v : ℕ} {out₀ out : List ℕ} → i < k → Finds text p (i + 1) s e
    → v ≡ code_of (take (e - s) (drop s text)) → Writing out₀ at (codes_at k (from text p).first) out i
    → Writing out₀ at (codes_at k (from text p).first) (set out (at + i) v) (i + 1)
codes_next text p k i at h f e w =
    writing_next w (omega (arith, h, codes_long k (from text p).first)) (code_is h f e)

pub codes_put : (text : List ℕ) (p k : ℕ) {i at : ℕ} {out₀ out : List ℕ}
    → Writing out₀ at (codes_at k (from text p).first) out i → k ≤ i
    → Put out₀ at (codes_at k (from text p).first) out (at + k)
codes_put text p k g h =
    record {
      bytes = writing_end g (omega (arith, h, codes_long k (from text p).first));
      next = omega (arith, codes_long k (from text p).first);
    }
