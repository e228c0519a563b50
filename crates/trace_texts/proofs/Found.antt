-- A word that is found byte by byte is the word of the line.
--   run_words      the words from a word on: it, and those behind it
--   no_run         no word starts here, and so the line has none from here on
--   Looking, looking_first, looking_next, looking_end     the first words are passed
use Prim.Native.Nat.{ℕ, suc, ◌+◌, ◌-◌, ◌<◌, ◌≤◌}
use native.Mathlib.Omega.{arith}
use mathlib.Core.Path.{◌≡◌, refl, sym, ap, ◌∙◌}
use mathlib.Core.Bool.{Bool, true, false, ◌||◌, not}
use mathlib.Core.Logic.{◌⊎◌, inl, inr}
use mathlib.Core.List.{List, [], ◌∷◌, ◌++◌}
use lib.Dec.{eqb}
use lib.ListN.{length, get_or, take, drop, length-drop, take-append-drop, drop_of_length-le}
use lib.Seq.{get_or-take, get_or-drop, drop-drop, length-take-le}
use Rattle.basics.specs.Words.{All}
use Rattle.basics.proofs.Bools.{never, below?}
use Rattle.trace_texts.specs.Words.{Lines, word, line, lines, is_blank_lem, before, lines_from}
use Rattle.trace_texts.specs.Finding.{is_solid_lem, from, Skips, Runs, Finds}
use Rattle.trace_texts.proofs.Splitting.{Solid, Dense, dense, Off, first_ahead, ahead_off, dense_words}
use Rattle.trace_texts.proofs.Steps.{step}

solid_is : {b : ℕ} → is_solid_lem b ≡ true → Solid b
unfolding is_solid_lem
solid_is {b} h = go (eqb b 10) (is_blank_lem b) refl refl h
  where
    go : (x y : Bool) → eqb b 10 ≡ x → is_blank_lem b ≡ y → not (x || y) ≡ true → Solid b
    go true y e f h = never h
    go false true e f h = never h
    go false false e f h = record { no_end = e; no_blank = f }

all_by : {P : ℕ → Type 0} (l : List ℕ) → ((i : ℕ) → i < length l → P (get_or l i 0)) → All P l
all_by [] h = All.none
all_by (x ∷ l) h = All.more (h 0 (omega arith)) (all_by l (λ i k. h (suc i) (omega arith)))

dense_of : (l : List ℕ) → 0 < length l → All Solid l → Dense l
dense_of [] h a = absurd (omega arith)
dense_of (x ∷ l) h (All.more s a) = dense s a

-- no byte of a word stands here
module _ (text : List ℕ) (r : ℕ) (h : r < length text → is_solid_lem (get_or text r 0) ≡ false) where
  off_end : length text ≤ r → Off r (from text r).first.words
  unfolding from lines_from
  off_end l = rw (drop_of_length-le text {i = r} l) Off.none

  off_inside : r < length text → (x y : Bool) → eqb (get_or text r 0) 10 ≡ x → is_blank_lem (get_or text r 0) ≡ y
      → Off r (before r (get_or text r 0) (from text (r + 1))).first.words
  unfolding before from is_solid_lem
  off_inside l true y e f = rw e Off.none
  off_inside l false true e f = rw (e, f) (ahead_off (first_ahead (r + 1) (drop (r + 1) text)))
  off_inside l false false e f =
      let g : is_solid_lem (get_or text r 0) ≡ true = rw (e, f) refl in
      never (sym (h l) ∙ g)

  off_here : Off r (from text r).first.words
  off_here = go (below? r (length text))
    where
      go : (r < length text) ⊎ (length text ≤ r) → Off r (from text r).first.words
      go (inl l) = rw (step text l) (off_inside l (eqb (get_or text r 0) 10) (is_blank_lem (get_or text r 0)) refl refl)
      go (inr l) = off_end l

ended : (text : List ℕ) {q : ℕ} → q < length text → eqb (get_or text q 0) 10 ≡ true → (from text q).first.words ≡ []
unfolding before
ended text l f = ap (λ (x : Lines). x.first.words) (step text l) ∙ rw f refl

at_text_end : (text : List ℕ) {q : ℕ} → length text ≤ q → (from text q).first.words ≡ []
unfolding from lines_from
at_text_end text {q} l = rw (drop_of_length-le text {i = q} l) refl

at_line_end : (text : List ℕ) {q r : ℕ} → q < length text → is_blank_lem (get_or text q 0) ≡ false
    → (r < length text → is_solid_lem (get_or text r 0) ≡ false) → r ≡ q → (from text q).first.words ≡ []
unfolding is_solid_lem
at_line_end text {q} {r} l b h e = go (eqb (get_or text q 0) 10) refl
  where
    go : (x : Bool) → eqb (get_or text q 0) 10 ≡ x → (from text q).first.words ≡ []
    go true f = ended text l f
    go false f =
        let g : is_solid_lem (get_or text q 0) ≡ true = rw (f, b) refl in
        never (sym (rw e at (h (omega arith))) ∙ g)

-- a word that runs from q to r
module _ (text : List ℕ) {q r : ℕ} (g : Runs text q r) where
  abbrev bytes_here : List ℕ
  bytes_here = take (r - q) (drop q text)

  run_length : length bytes_here ≡ r - q
  run_length =
      length-take-le (r - q) (drop q text) (omega (arith, length-drop q text, g.low, g.within))

  run_dense : q < r → Dense bytes_here
  run_dense h =
      dense_of bytes_here (omega (arith, run_length))
      (all_by bytes_here
      (λ i l.
      let m : i < r - q = omega (arith, l, run_length) in
      let e : get_or bytes_here i 0 ≡ get_or text (q + i) 0 =
      get_or-take (r - q) (drop q text) i 0 m ∙ get_or-drop q text i 0 in
      rw e (solid_is (g.solid (q + i) (omega arith) (omega arith)))))

  pub run_words : q < r
      → from text q
      ≡ lines (line (word q bytes_here ∷ (from text r).first.words) (from text r).first.end) (from text r).rest
  unfolding from
  run_words h =
      let behind : q + length bytes_here ≡ r = omega (arith, run_length, g.low) in
      let rest : drop (r - q) (drop q text) ≡ drop r text =
      drop-drop (r - q) q text ∙ ap (λ (j : ℕ). drop j text) (place g.low) in
      let split : drop q text ≡ bytes_here ++ drop r text =
      sym (take-append-drop (r - q) (drop q text)) ∙ ap (λ (l : List ℕ). bytes_here ++ l) rest in
      ap (lines_from q) split
      ∙ (rw behind at
      (dense_words (run_dense h) q (drop r text)
      (rw (behind) (off_here text r g.behind))))
    where
      place : {q r : ℕ} → q ≤ r → q + (r - q) ≡ r
      place h = omega arith

  -- no word starts here
  pub no_run : r ≡ q → (q < length text → is_blank_lem (get_or text q 0) ≡ false) → (from text q).first.words ≡ []
  no_run e h = go (below? q (length text))
    where
      go : (q < length text) ⊎ (length text ≤ q) → (from text q).first.words ≡ []
      go (inl l) = at_line_end text l (h l) g.behind e
      go (inr l) = at_text_end text l

-- the first i words of the line at p are passed
pub record Looking (text : List ℕ) (p i at : ℕ) : Type 0 where
  pub within : at ≤ length text
  pub left : (from text at).first.words ≡ drop i (from text p).first.words
  pub same_end : (from text at).first.end ≡ (from text p).first.end
  pub same_rest : (from text at).rest ≡ (from text p).rest
  pub at_word : at < length text → is_blank_lem (get_or text at 0) ≡ false

pub looking_first : {text : List ℕ} {p at : ℕ} → Skips text p at → Looking text p 0 at
looking_first s =
    record {
      within = s.within;
      left = ap (λ (x : Lines). x.first.words) (sym s.same_lines);
      same_end = ap (λ (x : Lines). x.first.end) (sym s.same_lines);
      same_rest = ap (λ (x : Lines). x.rest) (sym s.same_lines);
      at_word = s.behind;
    }

module _ {text : List ℕ} {p i at : ℕ} (g : Looking text p i at) where
  -- what stands behind a word, or at the line's end, is what the line has behind it
  next_words : {b : ℕ} → Runs text at b → (at < b) ⊎ (b ≤ at)
      → ((from text b).first.words ≡ drop 1 (from text at).first.words)
      × ((from text b).first.end ≡ (from text at).first.end) × ((from text b).rest ≡ (from text at).rest)
  next_words r (inl h) =
      let e = run_words text r h in (
        sym (ap (λ (x : Lines). drop 1 x.first.words) e),
        sym (ap (λ (x : Lines). x.first.end) e),
        sym (ap (λ (x : Lines). x.rest) e),
      )
  next_words {b} r (inr h) =
      let e : b ≡ at = omega (arith, r.low) in
      let none = no_run text r e g.at_word in
      rw e (none ∙ sym (ap (drop 1) none), refl, refl)

  pub looking_next : {b at' : ℕ} → Runs text at b → Skips text b at' → Looking text p (i + 1) at'
  looking_next {b} {at'} r s =
      let w = next_words r (below? at b) in
      let back : from text at' ≡ from text b = sym s.same_lines in
      record {
        within = s.within;
        left =
            ap (λ (x : Lines). x.first.words) back ∙ w.0 ∙ ap (drop 1) g.left
            ∙ drop-drop 1 i (from text p).first.words;
        same_end = ap (λ (x : Lines). x.first.end) back ∙ w.1 ∙ g.same_end;
        same_rest = ap (λ (x : Lines). x.rest) back ∙ w.2 ∙ g.same_rest;
        at_word = s.behind;
      }

pub looking_end : {text : List ℕ} {p i n at end : ℕ} → Looking text p i at → i ≡ n → Runs text at end
    → Finds text p n at end
looking_end {text} {p} g e r =
    record {
      left = g.left ∙ ap (λ (j : ℕ). drop j (from text p).first.words) e;
      same_end = g.same_end;
      same_rest = g.same_rest;
      run = r;
      at_word = g.at_word;
    }
