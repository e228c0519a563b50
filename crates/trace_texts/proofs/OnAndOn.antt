-- Word after word, and line after line.
--   finds_on, has_word          the next word, found from where the last one starts; a word that there is is found
--   words_few                   a line has no more words than the text has bytes
--   said_here, said_none, some_word     a line that says something is the first of those that are left; none is left
--   said_on                     behind a line the others are left
use Prim.Native.Nat.{ℕ, suc, ◌+◌, ◌<◌, ◌≤◌}
use native.Mathlib.Omega.{arith}
use mathlib.Core.Path.{◌≡◌, refl, ap, ◌∙◌}
use mathlib.Core.Bool.{Bool, true, false}
use mathlib.Core.Logic.{◌⊎◌, inl, inr}
use mathlib.Core.List.{List, [], ◌∷◌}
use lib.Dec.{eqb}
use lib.ListN.{length, drop, length-drop, drop_of_length-le}
use lib.Seq.{drop-drop}
use Rattle.basics.proofs.Bools.{never, below?}
use Rattle.trace_texts.specs.Words.{Word, Lines, is_blank_lem, joins, before, lines_from, says, saying}
use Rattle.trace_texts.specs.Finding.{from, Finds, said_from, Passes, Next}
use Rattle.trace_texts.proofs.WordOf.{no_word}

pub finds_on : {text : List ℕ} {p i s e s' e' : ℕ} → Finds text p i s e → Finds text s 1 s' e'
    → Finds text p (i + 1) s' e'
finds_on {text} {p} {i} g h =
    record {
      left = h.left ∙ ap (drop 1) g.left ∙ drop-drop 1 i (from text p).first.words;
      same_end = h.same_end ∙ g.same_end;
      same_rest = h.same_rest ∙ g.same_rest;
      run = h.run;
      at_word = h.at_word;
    }

pub has_word : {text : List ℕ} {p i s e : ℕ} → Finds text p i s e → i < length (from text p).first.words → s < e
has_word {s = s} {e} g h = go (below? s e)
  where
    go : (s < e) ⊎ (e ≤ s) → s < e
    go (inl l) = l
    go (inr l) = absurd (omega (arith, (no_word g l).0, h))

-- a byte adds at most one word
joins_few : (p b : ℕ) (ws : List Word) → length (joins p b ws) ≤ suc (length ws)
unfolding joins
joins_few p b [] = omega arith
joins_few p b (w ∷ ws) = go (eqb w.at (p + 1)) refl
  where
    go : (x : Bool) → eqb w.at (p + 1) ≡ x → length (joins p b (w ∷ ws)) ≤ suc (length (w ∷ ws))
    go true e = rw e (omega arith)
    go false e = rw e (omega arith)

before_few : (p b : ℕ) (x : Lines) → length (before p b x).first.words ≤ suc (length x.first.words)
unfolding before
before_few p b x = go (eqb b 10) (is_blank_lem b) refl refl
  where
    go : (u v : Bool) → eqb b 10 ≡ u → is_blank_lem b ≡ v
        → length (before p b x).first.words ≤ suc (length x.first.words)
    go true v e f = rw e (omega arith)
    go false true e f = rw (e, f) (omega arith)
    go false false e f = rw (e, f) (joins_few p b x.first.words)

lines_few : (p : ℕ) (bs : List ℕ) → length (lines_from p bs).first.words ≤ length bs
unfolding lines_from
lines_few p [] = omega arith
lines_few p (b ∷ bs) = omega (arith, before_few p b (lines_from (p + 1) bs), lines_few (p + 1) bs)

pub words_few : (text : List ℕ) (p : ℕ) → length (from text p).first.words ≤ length text
unfolding from
words_few text p = omega (arith, lines_few p (drop p text), length-drop p text)

-- lines that say something
module _ {text : List ℕ} {q p : ℕ} (g : Next text q p) where
  pub said_here : p < length text → said_from text p ≡ (from text p).first ∷ saying (from text p).rest
  unfolding said_from saying
  said_here h = rw (g.says_it h) refl

  pub some_word : p < length text → 0 < length (from text p).first.words
  unfolding says
  some_word h = go (from text p).first.words (g.says_it h)
    where
      go : (ws : List Word) → says ws ≡ true → 0 < length ws
      go [] e = never e
      go (w ∷ ws) e = omega arith

  pub said_on : {r p' : ℕ} → p < length text → Passes text p r → Next text r p'
      → drop 1 (said_from text p) ≡ said_from text p'
  said_on h a b = ap (drop 1) (said_here h) ∙ a.lines_behind ∙ b.same_said

pub said_none : (text : List ℕ) (p : ℕ) → length text ≤ p → said_from text p ≡ []
unfolding said_from from lines_from saying says
said_none text p h = rw (drop_of_length-le text {i = p} h) refl
