-- One byte more: what it does to the lines of a text.
--   step                                       the lines from a byte on, by the lines behind it
--   blank_step, end-step                       a blank, LF
--   FirstFrom, first_from                      the first byte from a place on that passes, found from that place on
--   Yet, yet_first, yet_next                   no byte from a place on passes yet
--   found_here, found_nowhere                  so the next one is the first, or none is
--   skips, runs                                blanks are passed, bytes of a word are passed
use Prim.Native.Nat.{ℕ, zero, suc, ◌+◌, ◌-◌, ◌<◌, ◌≤◌}
use native.Mathlib.Omega.{arith}
use native.Mathlib.Numerals.{add-one}
use mathlib.Core.Path.{◌≡◌, refl, sym, ap, subst, ◌∙◌}
use mathlib.Core.Bool.{true, false}
use mathlib.Core.List.{List}
use mathlib.Core.Logic.{◌⊎◌, inl, inr}
use lib.Dec.{eqb}
use lib.ListN.{length, get_or, drop, length-drop}
use lib.Seq.{drop-cons, get_or-drop}
use borrow.Author.Tests.{ne_eqb}
use Rattle.basics.proofs.Bools.{never, below?}
use Rattle.basics.proofs.Walked.{FirstPlace}
use Rattle.trace_texts.specs.Words.{is_blank_lem, before, lines_from}
use Rattle.trace_texts.specs.Finding.{is_solid_lem, from, Skips, Runs}

module _ (text : List ℕ) {i : ℕ} (h : i < length text) where
  pub step : from text i ≡ before i (get_or text i 0) (from text (i + 1))
  unfolding from lines_from
  step = rw (drop-cons text i 0 h, add-one i) refl

  blank_no_end : is_blank_lem (get_or text i 0) ≡ true → eqb (get_or text i 0) 10 ≡ false
  unfolding is_blank_lem
  blank_no_end t = ne_eqb (get_or text i 0) 10 (λ e. never (ap is_blank_lem (sym e) ∙ t))

  pub blank_step : is_blank_lem (get_or text i 0) ≡ true → from text i ≡ from text (i + 1)
  unfolding before
  blank_step t = step ∙ rw (blank_no_end t, t) refl

-- from p to r no byte passes, and at r one does
pub record FirstFrom (Yes No : ℕ → Type 0) (text : List ℕ) (p r : ℕ) : Type 0 where
  pub low : p ≤ r
  pub within : r ≤ length text
  pub before : (j : ℕ) → p ≤ j → j < r → No (get_or text j 0)
  pub there : r < length text → Yes (get_or text r 0)

pub first_from : (Yes No : ℕ → Type 0) (text : List ℕ) (p r : ℕ) → p ≤ length text
    → FirstPlace Yes No (drop p text) r → FirstFrom Yes No text p (p + r)
first_from Yes No text p r h f =
    record {
      low = omega arith;
      within = omega (arith, f.within, length-drop p text);
      before =
          λ j l m.
          let e : p + (j - p) ≡ j = omega arith in
          subst (λ (i : ℕ). No (get_or text i 0)) e
          (subst No (get_or-drop p text (j - p) 0) (f.before (j - p) (omega arith)));
      there = λ l. subst Yes (get_or-drop p text r 0) (f.there (omega (arith, l, length-drop p text)));
    }

-- from p on no byte before i passes
pub record Yet (No : ℕ → Type 0) (text : List ℕ) (p i : ℕ) : Type 0 where
  pub low : p ≤ i
  pub within : i ≤ length text
  pub before : (j : ℕ) → p ≤ j → j < i → No (get_or text j 0)

pub yet_first : {No : ℕ → Type 0} {text : List ℕ} {p : ℕ} → p ≤ length text → Yet No text p p
yet_first h = record { low = omega arith; within = h; before = λ j l m. absurd (omega arith) }

module _ {No : ℕ → Type 0} {text : List ℕ} {p i : ℕ} (g : Yet No text p i) where
  pub yet_next : i < length text → No (get_or text i 0) → Yet No text p (i + 1)
  yet_next h n =
      record { low = omega (arith, g.low); within = omega arith; before = λ j l m. go j l m (below? j i) }
    where
      go : (j : ℕ) → p ≤ j → j < i + 1 → (j < i) ⊎ (i ≤ j) → No (get_or text j 0)
      go j l m (inl k) = g.before j l k
      go j l m (inr k) = let q : i ≡ j = omega arith in subst (λ (k : ℕ). No (get_or text k 0)) q n

  pub found_here : (Yes : ℕ → Type 0) → Yes (get_or text i 0) → FirstFrom Yes No text p i
  found_here Yes y = record { low = g.low; within = g.within; before = g.before; there = λ l. y }

  pub found_nowhere : (Yes : ℕ → Type 0) → length text ≤ i → FirstFrom Yes No text p (length text)
  found_nowhere Yes h =
      record {
        low = omega (arith, g.low, g.within);
        within = omega arith;
        before = λ j l m. g.before j l (omega arith);
        there = λ l. absurd (omega arith);
      }

-- blanks are passed
pub skips : (text : List ℕ) (p r : ℕ)
    → FirstFrom (λ b. is_blank_lem b ≡ false) (λ b. is_blank_lem b ≡ true) text p r → Skips text p r
skips text p r f =
    record {
      low = f.low;
      within = f.within;
      same_lines =
          let e : p + (r - p) ≡ r = omega (arith, f.low) in
          same (r - p) (omega arith) ∙ ap (from text) e;
      behind = f.there;
    }
  where
    same : (n : ℕ) → n ≤ r - p → from text p ≡ from text (p + n)
    same zero h = ap (from text) (omega arith)
    same (suc n) h =
        same n (omega arith) ∙ blank_step text (omega (arith, f.within)) (f.before (p + n) (omega arith) (omega arith))
        ∙ ap (from text) (omega arith)

-- bytes of a word are passed
pub runs : (text : List ℕ) (p r : ℕ)
    → FirstFrom (λ b. is_solid_lem b ≡ false) (λ b. is_solid_lem b ≡ true) text p r → Runs text p r
runs text p r f = record { low = f.low; within = f.within; solid = f.before; behind = f.there }
