-- The parts of a line, and the lines one by one.
--   number_countable, number_put, note_none, note_some, mark_put, line_put      the parts
--   LinesSoFar, lines_first, -asked, -next, -last      a line for each alternative
--   heading_put      the heading before them
use Prim.Native.Nat.{ℕ, ◌+◌, ◌*◌, ◌<◌, ◌≤◌}
use native.Mathlib.Omega.{arith}
use native.Mathlib.Numerals.{add-one}
use mathlib.Core.Path.{◌≡◌, refl, sym, ap, ◌∙◌}
use mathlib.Core.List.{List, [], ◌∷◌, ◌++◌, append_assoc, append-nil}
use lib.ListN.{length, get_or, take, drop, length-append, drop_of_length-le}
use lib.Seq.{drop-cons}
use mir.Val.{Fits}
use mir.Syntax.{w64}
use borrow.Author.Tests.{ne_eqb}
use Rattle.alf.specs.Names.{names_in}
use Rattle.alf.specs.Alternatives.{Test, Alternative}
use Rattle.alternatives.specs.InMemory.{cut, sum, alternative_in, alternatives_in, alternatives_of_lem}
use Rattle.alternatives.proofs.Cuts.{cut_none, sum_next, sum_part_drop, tests_length}
use Rattle.matcher.proofs.Walking.{alternatives_next}
use Rattle.basics.specs.Memory.{Put}
use Rattle.basics.specs.Memory.{Holds}
use Rattle.basics.proofs.PartByPart.{put_as}
use Rattle.basics.specs.Text.{bytes, joined}
use Rattle.figures.specs.Numbers.{decimal}
use Rattle.basics.proofs.PartByPart.{put_then}
use Rattle.figures.proofs.Digits.{decimal_short}
use Rattle.alternative_texts.specs.Texts.{alternative_text}
use Rattle.alternative_lines.specs.Listing.{note, line_of}
use Rattle.alternative_texts.specs.Inner.{Countable, Puts, all_tests}
use Rattle.alternative_writing.specs.Inner.{OneAlternative}
use Rattle.alternative_lines.specs.Inner.{Low, AllLines}
use Rattle.alternative_lines.specs.Inner.{flagged, noted, marked, lines_with, headed_lines}
use Rattle.alternative_texts.proofs.Clipped.{Laying, laying_start, laying_on, laying_end, laying_parts}

-- a number
module _ {n at k : ℕ} {digits : List ℕ} (l : Low at) (f : Fits w64 n) (h : Holds digits k (decimal n)) where
  pub number_countable : Countable at (take k digits)
  number_countable =
      record { small = omega (arith, l.low, ap length h.front, decimal_short n f) }

  pub number_put : {out out' : List ℕ} {r : ℕ} → Put out at (take k digits) out' r
      → Puts out at (decimal n) 20 out' r
  number_put p = record { put = put_as h.front p; few = decimal_short n f }

-- a note
noted_none : {flag : ℕ} → flag ≡ 0 → noted flag ≡ bytes "\t-\t"
unfolding noted flagged note joined bytes
noted_none e = rw e refl

noted_some : (flag : ℕ) → (flag ≡ 0 → ⊥) → noted flag ≡ bytes "\tcontradictory\t"
unfolding noted flagged note joined bytes
noted_some flag f = rw (ne_eqb flag 0 f) refl

pub note_none : {flag at r : ℕ} {out out' : List ℕ} → flag ≡ 0 → Put out at (bytes "\t-\t") out' r
    → Puts out at (noted flag) 15 out' r
unfolding bytes
note_none e p = record { put = put_as (sym (noted_none e)) p; few = omega (arith, ap length (noted_none e)) }

pub note_some : {flag at r : ℕ} {out out' : List ℕ} → (flag ≡ 0 → ⊥)
    → Put out at (bytes "\tcontradictory\t") out' r
    → Puts out at (noted flag) 15 out' r
unfolding bytes
note_some {flag} f p =
    record { put = put_as (sym (noted_some flag f)) p; few = omega (arith, ap length (noted_some flag f)) }

-- two parts
both_put : {out v out' w out'' : List ℕ} {at p r m n : ℕ} → Puts out at v m out' p
    → Puts out' p w n out'' r
    → Puts out at (v ++ w) (m + n) out'' r
both_put {v = v} {w = w} a b =
    record { put = put_then a.put b.put; few = omega (arith, a.few, b.few, length-append v w) }

pub mark_put : (number flag : ℕ) {at p r : ℕ} {out out' out'' : List ℕ}
    → Puts out at (decimal number) 20 out' p
    → Puts out' p (noted flag) 15 out'' r → Puts out at (marked number flag) 35 out'' r
unfolding marked
mark_put number flag a b = both_put a b

one : length (bytes "\n") ≤ 1
unfolding bytes
one = omega arith

heading_short : length (bytes "number\tnote\talternative\n") ≤ 24
unfolding bytes
heading_short = omega arith

line_is : (names : List ℕ) (number flag : ℕ) (x : Alternative)
    → marked number flag ++ (alternative_text names x ++ bytes "\n") ≡ line_of names number (flagged flag) x
unfolding line_of marked noted joined bytes
line_is names number flag x = simp append_assoc

pub line_put : (names : List ℕ) (number flag : ℕ) (x : Alternative) {out out' out'' out''' : List ℕ}
    {at p q r : ℕ}
    → Puts out at (marked number flag) 35 out' p → Puts out' p (alternative_text names x) 266538495 out'' q
    → Put out'' q (bytes "\n") out''' r → Puts out at (line_of names number (flagged flag) x) 266538531 out''' r
line_put names number flag x a b c =
    let z = both_put a (both_put b (record { put = c; few = one })) in
    record { put = put_as (line_is names number flag x) z.put; few = rw (line_is names number flag x) at z.few }

-- the lines of the first k alternatives are written; the next one starts at step s and test t
pub record LinesSoFar (names steps tests flags : List ℕ) (all : List Test) (out₀ : List ℕ) (at s t k : ℕ)
    (out : List ℕ) (p : ℕ) : Type 0 where
  pub within : k ≤ length steps
  pub steps_room : s + sum (drop k steps) ≤ length tests
  pub tests_room : t + sum (drop s tests) ≤ length all
  pub laying : Laying out₀ at (lines_with names 1 flags (cut steps (cut tests all)))
      (lines_with names (k + 1) (drop k flags) (alternatives_in steps tests all k s t) ∷ []) out p
  pub low : p ≤ at + 266538531 * k

module _ {names tree steps tests edges operands flags : List ℕ} {at : ℕ}
    (h : AllLines names tree steps tests edges operands flags at) where
  abbrev all : List Test
  all = all_tests names tree edges operands

  many : length all ≡ length edges
  many = tests_length tree (names_in names) edges operands h.shape.known.enough

  module _ {out₀ : List ℕ} where
    pub lines_first : LinesSoFar names steps tests flags all out₀ at 0 0 0 out₀ at
    lines_first =
        record {
          within = omega arith;
          steps_room = omega (arith, h.shape.enough_steps);
          tests_room = omega (arith, h.shape.enough_tests, many);
          laying = laying_start _ (sym (append-nil _));
          low = omega arith;
        }

    module _ {s t k : ℕ} {out : List ℕ} {p : ℕ}
        (g : LinesSoFar names steps tests flags all out₀ at s t k out p) where
      module _ (l : k < length steps) (few : get_or steps k 0 ≤ 255) where
        pub lines_asked : OneAlternative names tree tests edges operands s (get_or steps k 0) t (p + 35)
        lines_asked =
            record {
              tested = record { named = h.named; few = h.short; known = h.shape.known };
              there = omega (arith, sum_next steps k l, g.steps_room);
              room = omega (arith, g.tests_room, many);
              few = few;
              low = omega (arith, h.low, h.shape.few, g.low);
            }

        apart : lines_with names (k + 1) (drop k flags) (alternatives_in steps tests all k s t)
            ≡ line_of names (k + 1) (flagged (get_or flags k 0)) (alternative_in tests all s t (get_or steps k 0))
            ++ lines_with names (k + 1 + 1) (drop (k + 1) flags)
            (alternatives_in steps tests all (k + 1) (s + get_or steps k 0)
            (t + sum (take (get_or steps k 0) (drop s tests))))
        unfolding lines_with
        apart =
            let b : k < length flags = omega (arith, h.flags_there) in
            rw (alternatives_next steps tests all k s t l, drop-cons flags k 0 b, add-one k) refl

        pub lines_next : {out' : List ℕ} {q : ℕ}
            → Puts out p
            (line_of names (k + 1) (flagged (get_or flags k 0)) (alternative_in tests all s t (get_or steps k 0))) 266538531
            out' q
            → LinesSoFar names steps tests flags all out₀ at (s + get_or steps k 0)
            (t + sum (take (get_or steps k 0) (drop s tests))) (k + 1) out' q
        lines_next u =
            record {
              within = omega arith;
              steps_room = omega (arith, sum_next steps k l, g.steps_room);
              tests_room = omega (arith, sum_part_drop tests s (get_or steps k 0), g.tests_room);
              laying =
                  laying_on
                  (laying_parts
                  (append-nil _ ∙ apart
                  ∙ ap (λ (w : List ℕ). line_of names (k + 1) (flagged (get_or flags k 0))
                  (alternative_in tests all s t (get_or steps k 0)) ++ w) (sym (append-nil _)))
                  g.laying)
                  u.put;
              low = omega (arith, g.low, u.few, u.put.next);
            }

      none : (fs : List ℕ) (i : ℕ) → lines_with names i fs [] ≡ []
      unfolding lines_with
      none [] i = refl
      none (f ∷ fs) i = refl

      pub lines_last : length steps ≤ k
          → Puts out₀ at
          (lines_with names 1 flags (alternatives_of_lem tree (names_in names) steps tests edges operands)) 17058465984 out p
      unfolding alternatives_of_lem
      lines_last l =
          let z = rw (drop_of_length-le steps l, cut_none) at g.laying in
          let e = laying_end (laying_parts (append-nil _ ∙ none (drop k flags) (k + 1)) z) in
          record { put = e; few = omega (arith, e.next, g.low, g.within, h.shape.few) }

-- the heading
module _ {names tree steps tests edges operands flags : List ℕ}
    (h : AllLines names tree steps tests edges operands flags 0)
    {out out' : List ℕ} {p : ℕ} (g : Put out 0 (bytes "number\tnote\talternative\n") out' p) where
  pub all_asked : AllLines names tree steps tests edges operands flags p
  unfolding bytes
  all_asked =
      record {
        named = h.named;
        short = h.short;
        shape = h.shape;
        flags_there = h.flags_there;
        low = omega (arith, g.next);
      }

  pub heading_put : (xs : List Alternative) {out'' : List ℕ} {r : ℕ}
      → Puts out' p (lines_with names 1 flags xs) 17058465984 out'' r
      → Puts out 0 (headed_lines names flags xs) 17058466008 out'' r
  unfolding headed_lines
  heading_put xs u = both_put {m = 24} (record { put = g; few = heading_short }) u
