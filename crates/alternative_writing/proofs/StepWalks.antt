-- The text of a step, from the lists.
--   test_asked, test_countable, test_put      a test with the gap before it
--   StepSoFar, step_first, -asked, -next, -last      the tests of a step, one by one
--   tests_asked, empty_countable, step_empty, step_some      a step with the gap before it, by whether it has tests
use Prim.Native.Nat.{ℕ, zero, suc, ◌+◌, ◌*◌, ◌<◌, ◌≤◌}
use native.Mathlib.Omega.{arith}
use mathlib.Core.Path.{◌≡◌, refl, sym, ap, ◌∙◌}
use mathlib.Core.List.{List, [], ◌∷◌, ◌++◌, map}
use lib.ListN.{length, get_or, take, drop, length-append, length-take, length-drop}
use Rattle.alf.specs.Names.{names_in}
use Rattle.alf.specs.Expressions.{vector, edge}
use Rattle.alf.specs.Decoder.{edge_at}
use Rattle.alf.specs.Alternatives.{Test, Step}
use Rattle.trees.specs.Parts.{boolean_at}
use Rattle.alternatives.specs.InMemory.{test_of, step_in}
use Rattle.alternatives.proofs.Cuts.{part, part_first, part_next, part_last, test_at_lem, tests_length}
use Rattle.basics.specs.Memory.{Put}
use Rattle.basics.proofs.PartByPart.{put_as}
use Rattle.basics.specs.Text.{bytes}
use Rattle.basics.proofs.PartByPart.{put_then}
use Rattle.alternative_texts.specs.Texts.{expression_of, test_text, between, step_text}
use Rattle.alternative_texts.specs.Inner.{Countable, Puts, lead, ShowsTest, Testable}
use Rattle.alternative_writing.specs.Inner.{OneTest, OneStep}
use Rattle.alternative_texts.specs.Inner.{all_tests}
use Rattle.alternative_writing.specs.Inner.{text_of_test}
use Rattle.alternative_texts.proofs.Clipped.{Laying, lead_short}
use Rattle.alternative_texts.proofs.Counting.{no_test}
use Rattle.alternative_writing.proofs.Between.{rest, parts_start, parts_next, parts_end}

-- a test
module _ {names tree edges operands : List ℕ} {k at : ℕ} (h : OneTest names tree edges operands k at) where
  pub test_asked : Testable names tree (get_or operands k 0)
  test_asked =
      record { named = h.tested.named; few = h.tested.few; ends = h.tested.known.boolean k h.there }

  module _ {text : List ℕ} {size u : ℕ}
      (w : ShowsTest names
      (vector (edge (edge_at (get_or edges k 0)) (boolean_at tree (names_in names) (get_or operands k 0)))) text size u)
      (gap : List ℕ) (three : length gap ≡ 3) (i : ℕ) {out out' : List ℕ} {p : ℕ}
      (g : Put out at (lead gap i) out' p) where
    pub test_countable : Countable p (take size text)
    test_countable =
        record {
          small = omega (arith, h.low, g.next, lead_short gap i, length-take size text, w.few);
        }

    pub test_put : {out'' : List ℕ} {r : ℕ} → Put out' p (take size text) out'' r
        → Puts out at (lead gap i ++ text_of_test names tree edges operands k) 4099 out'' r
    unfolding test_text expression_of
    test_put q =
        record {
          put = put_as (ap (λ (l : List ℕ). lead gap i ++ l) w.holds.front) (put_then g q);
          few =
              omega (
                arith,
                length-append (lead gap i) (text_of_test names tree edges operands k),
                lead_short gap i,
                w.holds.size,
                w.few,
              );
        }

-- the tests of a step: of n from t on, the first i are written
pub record StepSoFar (names : List ℕ) (all : List Test) (t n : ℕ) (out₀ : List ℕ) (at i : ℕ)
    (out : List ℕ) (p : ℕ) : Type 0 where
  pub within : i ≤ n
  pub laying : Laying out₀ at (between (bytes " & ") (map (test_text names) (step_in all t n)))
      (rest (bytes " & ") i (map (test_text names) (part all t n i)) ∷ []) out p
  pub low : p ≤ at + 4099 * i

module _ {names tree edges operands : List ℕ} {t n at : ℕ} (h : OneStep names tree edges operands t n at) where
  abbrev all : List Test
  all = all_tests names tree edges operands

  many : length all ≡ length edges
  many = tests_length tree (names_in names) edges operands h.tested.known.enough

  module _ {out₀ : List ℕ} where
    pub step_first : StepSoFar names all t n out₀ at 0 out₀ at
    step_first =
        record {
          within = omega arith;
          laying = rw (part_first all t n) (parts_start (test_text names) (bytes " & ") (step_in all t n));
          low = omega arith;
        }

    module _ {i : ℕ} {out : List ℕ} {p : ℕ} (g : StepSoFar names all t n out₀ at i out p) where
      pub step_asked : i < n → OneTest names tree edges operands (t + i) p
      step_asked l =
          record {
            tested = h.tested;
            there = omega (arith, h.there);
            low = omega (arith, h.low, h.few, g.low);
          }

      apart : i < n → part all t n i ≡ test_of tree (names_in names) (get_or edges (t + i) 0) (get_or operands (t + i) 0)
          ∷ part all t n (i + 1)
      apart l =
          part_next all t n i no_test l (omega (arith, many, h.there))
          ∙ ap (λ (x : Test). x ∷ part all t n (i + 1))
          (test_at_lem tree (names_in names) edges operands (t + i) no_test (omega (arith, h.there))
          h.tested.known.enough)

      pub step_next : {out' : List ℕ} {q : ℕ} → i < n
          → Puts out p (lead (bytes " & ") i ++ text_of_test names tree edges operands (t + i)) 4099 out' q
          → StepSoFar names all t n out₀ at (i + 1) out' q
      step_next l u =
          record {
            within = omega arith;
            laying = parts_next (test_text names) (bytes " & ") i g.laying (apart l) u.put;
            low = omega (arith, g.low, u.few, u.put.next);
          }

      pub step_last : n ≤ i
          → Puts out₀ at (between (bytes " & ") (map (test_text names) (step_in all t n))) 1045245 out p
      step_last l =
          let e = parts_end (test_text names) (bytes " & ") i g.laying (part_last all t n i l) in
          record { put = e; few = omega (arith, e.next, g.low, g.within, h.few) }

-- a step, with the gap before it
filled : (names : List ℕ) (xs : Step) → 0 < length xs
    → step_text names xs ≡ between (bytes " & ") (map (test_text names) xs)
unfolding step_text
filled names [] l = absurd (omega arith)
filled names (x ∷ xs) l = refl

empty : (names : List ℕ) (all : List Test) (t : ℕ) {n : ℕ} → n ≡ 0
    → step_text names (step_in all t n) ≡ bytes "( )"
unfolding step_text
empty names all t e = rw e refl

positive : (m : ℕ) → (m ≡ 0 → ⊥) → 0 < m
positive zero f = absurd (f refl)
positive (suc m) f = omega arith

module _ {names tree edges operands : List ℕ} {t n at : ℕ} (h : OneStep names tree edges operands t n (at + 4))
    (j : ℕ) {out out' : List ℕ} {p : ℕ} (g : Put out at (lead (bytes " -> ") j) out' p) where
  abbrev every : List Test
  every = all_tests names tree edges operands

  gap_length : length (lead (bytes " -> ") j) ≤ 4
  unfolding bytes
  gap_length = lead_short (bytes " -> ") j

  pub tests_asked : OneStep names tree edges operands t n p
  tests_asked =
      record {
        tested = h.tested;
        there = h.there;
        few = h.few;
        low = omega (arith, h.low, g.next, gap_length);
      }

  pub empty_countable : Countable p (bytes "( )")
  unfolding bytes
  empty_countable = record { small = omega (arith, tests_asked.low) }

  pub step_empty : {out'' : List ℕ} {r : ℕ} → n ≡ 0 → Put out' p (bytes "( )") out'' r
      → Puts out at (lead (bytes " -> ") j ++ step_text names (step_in every t n)) 1045249 out'' r
  unfolding bytes
  step_empty e q =
      let d = empty names every t e in
      record {
        put = put_as (ap (λ (l : List ℕ). lead (bytes " -> ") j ++ l) (sym d)) (put_then g q);
        few =
            omega (
              arith,
              length-append (lead (bytes " -> ") j) (step_text names (step_in every t n)),
              gap_length,
              ap length d,
            );
      }

  some_tests : (n ≡ 0 → ⊥) → 0 < length (step_in every t n)
  some_tests f =
      let l : 0 < n = positive n f in
      omega (
        arith,
        length-take n (drop t every),
        length-drop t every,
        tests_length tree (names_in names) edges operands h.tested.known.enough,
        h.there,
      )

  pub step_some : {out'' : List ℕ} {r : ℕ} → (n ≡ 0 → ⊥)
      → Puts out' p (between (bytes " & ") (map (test_text names) (step_in every t n))) 1045245 out'' r
      → Puts out at (lead (bytes " -> ") j ++ step_text names (step_in every t n)) 1045249 out'' r
  step_some f q =
      let e = filled names (step_in every t n) (some_tests f) in
      let w = ap (λ (l : List ℕ). lead (bytes " -> ") j ++ l) (sym e) in
      record {
        put = put_as w (put_then g q.put);
        few =
            omega (
              arith,
              length-append (lead (bytes " -> ") j) (step_text names (step_in every t n)),
              gap_length,
              q.few,
              ap length e,
            );
      }
