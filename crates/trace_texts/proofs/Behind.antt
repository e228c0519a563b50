-- Line after line.
--   passes_end, passes_all    bytes of a line are passed, up to LF or to the text's end
--   says_first        whether a line says something is told by the first byte of its first word
--   Seeking, seeking_first, seeking_next, next_found, next_none     lines that say nothing are passed
use Rattle.std.specs.Prelude.{if◌then◌else◌}
use Prim.Native.Nat.{ℕ, zero, suc, ◌+◌, ◌-◌, ◌<◌, ◌≤◌}
use native.Mathlib.Omega.{arith}
use mathlib.Core.Path.{◌≡◌, refl, sym, ap, subst, ◌∙◌}
use mathlib.Core.Bool.{Bool, true, false, ◌||◌, not}
use mathlib.Core.List.{List, [], ◌∷◌}
use lib.Dec.{eqb}
use lib.ListN.{length, get_or, drop_of_length-le}
use borrow.Author.Tests.{eq-eqb, ne_eqb, eqb-false}
use Rattle.basics.proofs.Bools.{never}
use Rattle.trace_texts.specs.Words.{Word, Lines, word, line, lines, is_blank_lem, joins, before, lines_from}
use Rattle.trace_texts.specs.Words.{says, saying}
use Rattle.trace_texts.specs.Finding.{from, said_from, is_opening, Skips, Passes, Next}
use Rattle.trace_texts.proofs.Steps.{FirstFrom, step}

-- a byte that is no LF leaves the lines behind this one
rest_before : (p b : ℕ) (x : Lines) → eqb b 10 ≡ false → (before p b x).rest ≡ x.rest
unfolding before
rest_before p b x e = rw e (go (is_blank_lem b))
  where
    go : (y : Bool) → (if y then x else lines (line (joins p b x.first.words) x.first.end) x.rest).rest
        ≡ x.rest
    go true = refl
    go false = refl

rest_step : (text : List ℕ) {i : ℕ} → i < length text → eqb (get_or text i 0) 10 ≡ false
    → (from text i).rest ≡ (from text (i + 1)).rest
rest_step text {i} h e = ap (λ (x : Lines). x.rest) (step text h) ∙ rest_before i _ (from text (i + 1)) e

pub ended_step : (text : List ℕ) {i : ℕ} → i < length text → eqb (get_or text i 0) 10 ≡ true
    → from text i ≡ lines (line [] i) ((from text (i + 1)).first ∷ (from text (i + 1)).rest)
unfolding before
ended_step text h e = step text h ∙ rw e refl

-- nothing is said behind the text's end
pub said_end : (text : List ℕ) {i : ℕ} → length text ≤ i → said_from text i ≡ []
unfolding said_from from lines_from saying says
said_end text {i} h = rw (drop_of_length-le text {i = i} h) refl

rest_end : (text : List ℕ) {i : ℕ} → length text ≤ i → (from text i).rest ≡ []
unfolding from lines_from
rest_end text {i} h = rw (drop_of_length-le text {i = i} h) refl

-- bytes of a line are passed, up to LF
module _ (text : List ℕ) (p r : ℕ) (f : FirstFrom (λ b. b ≡ 10) (λ b. b ≡ 10 → ⊥) text p r) where
  same_to : (n : ℕ) → n ≤ r - p → (from text p).rest ≡ (from text (p + n)).rest
  same_to zero h = ap (λ (i : ℕ). (from text i).rest) (omega arith)
  same_to (suc n) h =
      same_to n (omega arith)
      ∙ rest_step text (omega (arith, f.within)) (ne_eqb _ 10 (f.before (p + n) (omega arith) (omega arith)))
      ∙ ap (λ (i : ℕ). (from text i).rest) (omega arith)

  same_rest : (from text p).rest ≡ (from text r).rest
  same_rest =
      let e : p + (r - p) ≡ r = omega (arith, f.low) in
      same_to (r - p) (omega arith) ∙ ap (λ (i : ℕ). (from text i).rest) e

  pub passes_end : r < length text → Passes text p (r + 1)
  unfolding said_from
  passes_end h =
      record {
        low = omega (arith, f.low);
        within = omega arith;
        on = λ l. omega (arith, f.low);
        lines_behind =
            ap saying
            (same_rest ∙ ap (λ (x : Lines). x.rest) (ended_step text h (eq-eqb (get_or text r 0) 10 (f.there h))));
      }

  pub passes_all : length text ≤ r → Passes text p (length text)
  unfolding saying
  passes_all h =
      let e : r ≡ length text = omega (arith, f.within) in
      subst (λ (i : ℕ). Passes text p i) e
      (record {
        low = f.low;
        within = f.within;
        on = λ l. omega arith;
        lines_behind = ap saying (same_rest ∙ rest_end text h) ∙ sym (said_end text h);
      })

-- the first byte of the first word
says_joins : (p b : ℕ) (ws : List Word) → says (joins p b ws) ≡ not (eqb b 35)
unfolding joins says
says_joins p b [] = refl
says_joins p b (w ∷ ws) = go (eqb w.at (p + 1))
  where
    go : (x : Bool) → says (if x then word p (b ∷ w.bytes) ∷ ws else word p (b ∷ []) ∷ w ∷ ws) ≡ not (eqb b 35)
    go true = refl
    go false = refl

pub says_first : (text : List ℕ) {i : ℕ} → i < length text → (get_or text i 0 ≡ 10 → ⊥)
    → is_blank_lem (get_or text i 0) ≡ false → says (from text i).first.words ≡ not (eqb (get_or text i 0) 35)
unfolding before
says_first text {i} h n b =
    ap (λ (x : Lines). says x.first.words) (step text h)
    ∙ rw (ne_eqb (get_or text i 0) 10 n, b) (says_joins i (get_or text i 0) (from text (i + 1)).first.words)

opening_is : (b : ℕ) → is_opening b ≡ true → (b ≡ 10 → ⊥) × (b ≡ 35 → ⊥)
unfolding is_opening
opening_is b h = go (eqb b 10) (eqb b 35) refl refl h
  where
    go : (x y : Bool) → eqb b 10 ≡ x → eqb b 35 ≡ y → not (x || y) ≡ true → (b ≡ 10 → ⊥) × (b ≡ 35 → ⊥)
    go true y k l m = never m
    go false true k l m = never m
    go false false k l m = (eqb-false b 10 k, eqb-false b 35 l)

silent : (text : List ℕ) (i : ℕ) → says (from text i).first.words ≡ false
    → said_from text i ≡ saying (from text i).rest
unfolding said_from saying
silent text i e = rw e refl

-- lines that say nothing are passed
pub record Seeking (text : List ℕ) (p at : ℕ) : Type 0 where
  pub low : p ≤ at
  pub within : at ≤ length text
  pub same_said : said_from text p ≡ said_from text at

pub seeking_first : {text : List ℕ} {p : ℕ} → p ≤ length text → Seeking text p p
seeking_first h = record { low = omega arith; within = h; same_said = refl }

said_skips : {text : List ℕ} {at w : ℕ} → Skips text at w → said_from text at ≡ said_from text w
unfolding said_from
said_skips s = ap (λ (x : Lines). saying (x.first ∷ x.rest)) s.same_lines

module _ {text : List ℕ} {p at : ℕ} (g : Seeking text p at) where
  pub next_none : length text ≤ at → Next text p at
  next_none h =
      record {
        within = g.within;
        low = g.low;
        same_said = g.same_said;
        says_it = λ l. absurd (omega arith);
      }

  module _ {w : ℕ} (s : Skips text at w) where
    pub next_end : w ≡ length text → Next text p w
    next_end e =
        record {
          within = s.within;
          low = omega (arith, g.low, s.low);
          same_said = g.same_said ∙ said_skips s;
          says_it = λ l. absurd (omega arith);
        }

    pub next_found : {b : Bool} → b ≡ is_opening (get_or text w 0) → b ≡ true → Next text p w
    next_found e t =
        let o = opening_is (get_or text w 0) (sym e ∙ t) in
        record {
          within = s.within;
          low = omega (arith, g.low, s.low);
          same_said = g.same_said ∙ said_skips s;
          says_it = λ l. says_first text l o.0 (s.behind l) ∙ ap not (ne_eqb (get_or text w 0) 35 o.1);
        }

    seek_on : {r : ℕ} → says (from text w).first.words ≡ false → Passes text w r → Seeking text p r
    seek_on e q =
        record {
          low = omega (arith, g.low, s.low, q.low);
          within = q.within;
          same_said = g.same_said ∙ said_skips s ∙ silent text w e ∙ q.lines_behind;
        }

    seeking_blank : w < length text → eqb (get_or text w 0) 10 ≡ true → says (from text w).first.words ≡ false
    unfolding says
    seeking_blank h e = ap (λ (x : Lines). says x.first.words) (ended_step text h e)

    pub seeking_next : {b : Bool} {r : ℕ} → w < length text → b ≡ is_opening (get_or text w 0) → b ≡ false
        → Passes text w r → Seeking text p r
    unfolding is_opening
    seeking_next {r = r} h e f q = go (eqb (get_or text w 0) 10) (eqb (get_or text w 0) 35) refl refl (sym e ∙ f)
      where
        go : (x y : Bool) → eqb (get_or text w 0) 10 ≡ x → eqb (get_or text w 0) 35 ≡ y → not (x || y) ≡ false
            → Seeking text p r
        go true y k l m = seek_on (seeking_blank h k) q
        go false true k l m =
            seek_on (says_first text h (eqb-false (get_or text w 0) 10 k) (s.behind h) ∙ ap not l) q
        go false false k l m = never (sym m)
