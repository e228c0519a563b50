-- A text that is made of words: its lines say these words.
--   Solid, Dense              bytes of a word; a word, which has one byte at least
--   trail                     words, each behind a blank
--   Laid, laid                the words behind a word, up to LF, and the lines behind that
--   Spelt, spelt              a text of whole lines; the lines that say something are these
use Rattle.std.specs.Prelude.{if◌then◌else◌}
use Prim.Native.Nat.{ℕ, ◌+◌, ◌≤◌}
use native.Mathlib.Omega.{arith}
use mathlib.Core.Path.{◌≡◌, refl, ap, ◌∙◌}
use mathlib.Core.Bool.{Bool, true, false}
use mathlib.Core.List.{List, [], ◌∷◌, ◌++◌, map, append_assoc}
use lib.Dec.{eqb}
use lib.ListN.{length, get_or}
use borrow.Author.Tests.{eq-eqb, ne_eqb}
use Rattle.basics.specs.Words.{All}
use Rattle.trace_texts.specs.Words.{Word, Line, Lines, word, line, lines, is_blank_lem, joins, before, lines_from}
use Rattle.trace_texts.specs.Words.{says, saying}

-- a byte of a word: no LF and no blank
pub record Solid (b : ℕ) : Type 0 where
  pub no_end : eqb b 10 ≡ false
  pub no_blank : is_blank_lem b ≡ false

-- a word: one byte or more
pub data Dense : List ℕ → Type 0 where
  one : {b : ℕ} → Solid b → Dense (b ∷ [])
  more : {b c : ℕ} {w : List ℕ} → Solid b → Dense (c ∷ w) → Dense (b ∷ c ∷ w)

pub dense : {b : ℕ} {w : List ℕ} → Solid b → All Solid w → Dense (b ∷ w)
dense s All.none = one s
dense s (All.more t a) = more s (dense t a)

-- the first word does not start at a place
pub data Off (p : ℕ) : List Word → Type 0 where
  none : Off p []
  off : {w : Word} {ws : List Word} → (w.at ≡ p → ⊥) → Off p (w ∷ ws)

-- the first word starts at a place or behind it
pub data Ahead (p : ℕ) : List Word → Type 0 where
  none : Ahead p []
  ahead : {w : Word} {ws : List Word} → p ≤ w.at → Ahead p (w ∷ ws)

ahead_more : {p : ℕ} {ws : List Word} → Ahead (p + 1) ws → Ahead p ws
ahead_more none = none
ahead_more (ahead {w = w} h) = ahead {w = w} (omega arith)

pub ahead_off : {p : ℕ} {ws : List Word} → Ahead (p + 1) ws → Off p ws
ahead_off none = none
ahead_off {p} (ahead {w = w} h) = off {w = w} (λ e. omega (arith, e, h))

joins_ahead : (p b : ℕ) (ws : List Word) → Ahead p (joins p b ws)
unfolding joins
joins_ahead p b [] = ahead {w = word p (b ∷ [])} (omega arith)
joins_ahead p b (w ∷ ws) = go (eqb w.at (p + 1))
  where
    go : (x : Bool) → Ahead p (if x then word p (b ∷ w.bytes) ∷ ws else word p (b ∷ []) ∷ w ∷ ws)
    go true = ahead {w = word p (b ∷ w.bytes)} (omega arith)
    go false = ahead {w = word p (b ∷ [])} (omega arith)

before_ahead : (p b : ℕ) (x : Lines) → Ahead (p + 1) x.first.words → Ahead p (before p b x).first.words
unfolding before
before_ahead p b x h = go (eqb b 10) (is_blank_lem b)
  where
    go : (y z : Bool)
        → Ahead p (if y then lines (line [] p) (x.first ∷ x.rest)
        else if z then x
        else lines (line (joins p b x.first.words) x.first.end) x.rest).first.words
    go true z = none
    go false true = ahead_more h
    go false false = joins_ahead p b x.first.words

pub first_ahead : (p : ℕ) (text : List ℕ) → Ahead p (lines_from p text).first.words
unfolding lines_from
first_ahead p [] = none
first_ahead p (b ∷ bs) = before_ahead p b (lines_from (p + 1) bs) (first_ahead (p + 1) bs)

-- one byte
solid_before : (p : ℕ) {b : ℕ} (x : Lines) → Solid b
    → before p b x ≡ lines (line (joins p b x.first.words) x.first.end) x.rest
unfolding before
solid_before p x s = rw (s.no_end, s.no_blank) refl

joins_off : (p b : ℕ) {ws : List Word} → Off (p + 1) ws → joins p b ws ≡ word p (b ∷ []) ∷ ws
unfolding joins
joins_off p b none = refl
joins_off p b (off {w = w} n) = rw (ne_eqb w.at (p + 1) n) refl

joins_on : (p b : ℕ) (w : List ℕ) (ws : List Word)
    → joins p b (word (p + 1) w ∷ ws) ≡ word p (b ∷ w) ∷ ws
unfolding joins
joins_on p b w ws = rw (eq-eqb (p + 1) (p + 1) refl) refl

-- a word, and what is behind it
abbrev pub Behind : ℕ → List ℕ → List ℕ → Type 0
Behind p w x =
    lines_from p (w ++ x)
    ≡ lines
    (line (word p w ∷ (lines_from (p + length w) x).first.words) (lines_from (p + length w) x).first.end)
    (lines_from (p + length w) x).rest

pub dense_words : {w : List ℕ} → Dense w → (p : ℕ) (x : List ℕ)
    → Off (p + length w) (lines_from (p + length w) x).first.words → Behind p w x
unfolding lines_from
dense_words (one {b = b} s) p x h =
    solid_before p (lines_from (p + 1) x) s
    ∙ ap (λ (ws : List Word). lines (line ws (lines_from (p + 1) x).first.end) (lines_from (p + 1) x).rest)
    (joins_off p b h)
dense_words (more {b = b} {c = c} {w = w} s d) p x h =
    let e : p + length (b ∷ c ∷ w) ≡ p + 1 + length (c ∷ w) = omega arith in
    let i : Behind (p + 1) (c ∷ w) x = dense_words d (p + 1) x (rw e at h) in
    rw e
    (ap (before p b) i
    ∙ solid_before p _ s
    ∙ ap (λ (ws : List Word). lines (line ws (lines_from (p + 1 + length (c ∷ w)) x).first.end)
    (lines_from (p + 1 + length (c ∷ w)) x).rest)
    (joins_on p b (c ∷ w) (lines_from (p + 1 + length (c ∷ w)) x).first.words))

-- words, each behind a blank
unfoldable pub trail : List (List ℕ) → List ℕ
trail [] = []
trail (w ∷ ws) = 32 ∷ (w ++ trail ws)

-- the words up to LF, and the lines behind it
pub record Laid (p : ℕ) (text : List ℕ) (ws : List (List ℕ)) (rest : List ℕ) : Type 0 where
  pub words : List Word
  pub end : ℕ
  pub next : ℕ
  pub is : lines_from p text ≡ lines (line words end) ((lines_from next rest).first ∷ (lines_from next rest).rest)
  pub said : map (λ (w : Word). w.bytes) words ≡ ws

trail_off : (ws : List (List ℕ)) (p : ℕ) (rest : List ℕ)
    → Off p (lines_from p (trail ws ++ (10 ∷ rest))).first.words
unfolding lines_from trail before is_blank_lem
trail_off [] p rest = none
trail_off (w ∷ ws) p rest = ahead_off (first_ahead (p + 1) ((w ++ trail ws) ++ (10 ∷ rest)))

laid_word : {w : List ℕ} → Dense w → (p : ℕ) {x : List ℕ} {ws : List (List ℕ)} {rest : List ℕ}
    → Off (p + length w) (lines_from (p + length w) x).first.words → Laid (p + length w) x ws rest
    → Laid p (w ++ x) (w ∷ ws) rest
laid_word {w} d p {x} h l =
    record {
      words = word p w ∷ l.words;
      end = l.end;
      next = l.next;
      is =
          dense_words d p x h
          ∙ ap (λ (y : Lines). lines (line (word p w ∷ y.first.words) y.first.end) y.rest) l.is;
      said = ap (λ (z : List (List ℕ)). w ∷ z) l.said;
    }

laid_trail : {ws : List (List ℕ)} → All Dense ws → (p : ℕ) (rest : List ℕ) → Laid p (trail ws ++ (10 ∷ rest)) ws rest
unfolding lines_from trail before is_blank_lem
laid_trail All.none p rest = record { words = []; end = p; next = p + 1; is = refl; said = refl }
laid_trail (All.more {x = w} {xs = ws} d a) p rest =
    let l = laid_word d (p + 1) (trail_off ws (p + 1 + length w) rest) (laid_trail a (p + 1 + length w) rest) in
    record {
      words = l.words;
      end = l.end;
      next = l.next;
      is = ap (lines_from (p + 1)) (append_assoc w (trail ws) (10 ∷ rest)) ∙ l.is;
      said = l.said;
    }

-- a text of whole lines of words, none of which is a comment
pub data Spelt : List (List (List ℕ)) → List ℕ → Type 0 where
  none : Spelt [] []
  more : {w : List ℕ} {ws : List (List ℕ)} {ls : List (List (List ℕ))} {text text' : List ℕ} → Dense w
      → (get_or w 0 0 ≡ 35 → ⊥) → All Dense ws → Spelt ls text → text' ≡ w ++ (trail ws ++ (10 ∷ text))
      → Spelt ((w ∷ ws) ∷ ls) text'

abbrev pub said_by : Line → List (List ℕ)
said_by l = map (λ (w : Word). w.bytes) l.words

pub spelt : {ls : List (List (List ℕ))} {text : List ℕ} → Spelt ls text → (p : ℕ)
    → map said_by (saying ((lines_from p text).first ∷ (lines_from p text).rest)) ≡ ls
unfolding lines_from saying says laid_word
spelt none p = refl
spelt (more {w = w} {ws = ws} {ls = ls} {text = text} d n a s e) p =
    let t = laid_trail a (p + length w) text in
    let i = laid_word d p (trail_off ws (p + length w) text) t in
    let rest = spelt s t.next in
    let words = t.said in
    ap (λ (l : List ℕ). map said_by (saying ((lines_from p l).first ∷ (lines_from p l).rest))) e
    ∙ ap (λ (y : Lines). map said_by (saying (y.first ∷ y.rest))) i.is
    ∙ rw (ne_eqb (get_or w 0 0) 35 n) (cc)
