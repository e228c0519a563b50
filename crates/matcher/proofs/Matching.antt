-- Laws of matching in order: the answers of tests, steps and alternatives, the first one apart, and what is known after
-- some alternatives were tried.
--   Asking, asking_first, -more, -last     some tests of a step are asked
--   Stepping, stepping_first, ..           some steps of an alternative are asked
--   Trying, trying_first, ..               some alternatives are tried
use mathlib.Core.Path.{◌≡◌, refl, ap, sym, ◌∙◌}
use mathlib.Core.List.{List, [], ◌∷◌, map}
use Prim.Native.Nat.{ℕ, zero, suc, ◌+◌, ◌-◌, ◌<◌, ◌≤◌, min, max}
use native.Mathlib.Nat.{add-zero, sub-zero}
use native.Mathlib.Omega.{arith}
use borrow.Author.Tests.{eq-eqb, ne_eqb}
use lib.ListN.{length, get_or, take, drop, length-take, length-drop}
use Rattle.alf.specs.declared.Answer.{Answer}
use Rattle.alf.specs.declared.Answer.TheVariants.{Yes, NoEvent}
use Rattle.basics.specs.Words.{least_of, greatest_of}
use Rattle.alf.specs.Expressions.{Boolean}
use Rattle.alf.specs.Windows.{numbered}
use Rattle.alf.specs.Answers.{number_of}
use Rattle.alf.specs.Alternatives.{Test, Alternative, test_at, step_at, steps_from, at_row, best_of, answer_of, tried, tries}
use Rattle.basics.proofs.Extremes.{least_of_small}
use Rattle.alf.proofs.Steps.{steps_small}
use Rattle.alf.proofs.RowsAreAlternatives.{row_on}
use Rattle.evaluator.proofs.AnswerNumbers.{numbered_yes}
use Rattle.alternatives.specs.InMemory.{cut, sum, step_in, alternative_in}
use Rattle.matcher.specs.Answers.{Matches}
use Rattle.alternatives.proofs.Cuts.{part, part_first, part_next, part_last, cut_at, cut_length, sum_next}

yes_numbered : (r : ℕ) → 2 ≤ r → 1 ≡ numbered r
yes_numbered r h = numbered_yes r (λ e. omega arith) (λ e. omega arith)

-- Of the n tests from t on the first i are asked: with those that are left, `least` comes to the least of all.
pub record Asking (st : Boolean → ℕ → ℕ) (all : List Test) (t n a least i : ℕ) : Type 0 where
  pub within : i ≤ n
  pub small : least ≤ 2
  pub is : min least (least_of (test_at st a) (part all t n i)) ≡ step_at st (step_in all t n) a

module _ {st : Boolean → ℕ → ℕ} {all : List Test} {t n a : ℕ} where
  pub asking_first : Asking st all t n a 2 0
  unfolding step_at
  asking_first =
      let e = least_of_small (test_at st a) (step_in all t n) in
      record { within = omega arith; small = omega arith; is = rw part_first (omega arith) }

  pub asking_more : {least i : ℕ} (d : Test) → Asking st all t n a least i → i < n → t + n ≤ length all
      → Asking st all t n a (min least (test_at st a (get_or all (t + i) d))) (i + 1)
  unfolding least_of
  asking_more {least} {i} d g l h =
      let e = rw (part_next all t n i d l (omega arith)) at g.is in
      record { within = omega arith; small = omega (arith, g.small); is = omega arith }

  pub asking_last : {least i : ℕ} → Asking st all t n a least i → n ≤ i
      → least ≡ step_at st (step_in all t n) a
  unfolding least_of
  asking_last {least} {i} g h = let e = rw (part_last all t n i h) at g.is in omega (arith, g.small)

pub alternative_length : (tests : List ℕ) (all : List Test) (s n t : ℕ) → s + n ≤ length tests
    → length (alternative_in tests all s t n) ≡ n
alternative_length tests all s n t h =
    let e = cut_length (drop s tests) (drop t all) in
    let f = length-drop s tests in
    length-take n (cut (drop s tests) (drop t all)) ∙ omega arith

-- Of the n steps from s on the first j are asked, and the tests of the next start at `at`.
pub record Stepping (st : Boolean → ℕ → ℕ) (tests : List ℕ) (all : List Test) (s n t a least at j : ℕ)
    : Type 0 where
  pub within : j ≤ n
  pub small : least ≤ 2
  pub room : at + sum (drop (s + j) tests) ≤ length all
  pub is : min least (steps_from st (take (n - j) (cut (drop (s + j) tests) (drop at all))) (a + j))
      ≡ steps_from st (alternative_in tests all s t n) a

module _ {st : Boolean → ℕ → ℕ} {tests : List ℕ} {all : List Test} {s n t a : ℕ} where
  pub stepping_first : t + sum (drop s tests) ≤ length all → Stepping st tests all s n t a 2 t 0
  stepping_first h =
      let e = steps_small st (alternative_in tests all s t n) a in
      record {
        within = omega arith;
        small = omega arith;
        room = rw add-zero h;
        is = rw (add-zero, add-zero, sub-zero) (omega arith);
      }

  pub stepping_more : {least at j : ℕ} → Stepping st tests all s n t a least at j → j < n
      → s + n ≤ length tests
      → Stepping st tests all s n t a (min least (step_at st (step_in all at (get_or tests (s + j) 0)) (a + j)))
      (at + get_or tests (s + j) 0) (j + 1)
  unfolding steps_from
  stepping_more {least} {at} {j} g l h =
      let e : n - j ≡ suc (n - (j + 1)) = omega arith in
      let f : s + j + 1 ≡ s + (j + 1) = omega arith in
      let k : a + j + 1 ≡ a + (j + 1) = omega arith in
      let i = rw (e, cut_at tests all (s + j) at (omega arith), f, k) at g.is in
      record {
        within = omega arith;
        small = omega (arith, g.small);
        room = rw (← f) (omega (arith, sum_next tests (s + j) (omega arith), g.room));
        is = omega arith;
      }

  pub stepping_fits : {least at j : ℕ} → Stepping st tests all s n t a least at j → j < n
      → s + n ≤ length tests
      → at + get_or tests (s + j) 0 ≤ length all
  stepping_fits {least} {at} {j} g l h = omega (arith, sum_next tests (s + j) (omega arith), g.room)

  pub stepping_last : {least at j row : ℕ} → Stepping st tests all s n t a least at j → n ≤ j
      → s + n ≤ length tests
      → n ≤ row → a ≡ row - n → least ≡ at_row st row (alternative_in tests all s t n)
  unfolding steps_from
  stepping_last {least} {at} {j} {row} g h k l e =
      let z : n - j ≡ 0 = omega arith in
      let i = rw z at g.is in
      let m : least ≡ steps_from st (alternative_in tests all s t n) a = omega (arith, g.small) in
      m
      ∙ ap (steps_from st (alternative_in tests all s t n))
      (e ∙ ap (λ (x : ℕ). row - x) (sym (alternative_length tests all s n t k)))
      ∙ sym (row_on st row (alternative_in tests all s t n) (rw (alternative_length tests all s n t k) l))

-- the alternatives `rest` are still to be tried; k are tried, and the best of their answers is b
module _ (st : Boolean → ℕ → ℕ) (row : ℕ) (xs : List Alternative) where
  pub record Trying (rest : List Alternative) (k b : ℕ) : Type 0 where
    pub best : max b (greatest_of (at_row st row) rest) ≡ best_of st xs row
    pub count : k + tried (map (at_row st row) rest) ≡ tried (map (at_row st row) xs)

  answered : (i : ℕ) → 0 < i → (a : ℕ) → a ≡ numbered (best_of st xs i) → a ≡ answer_of st xs i
  unfolding answer_of
  answered zero h a e = absurd (omega arith)
  answered (suc i) h a e = e

  counted : (i : ℕ) → 0 < i → (k : ℕ) → k ≡ tried (map (at_row st i) xs) → k ≡ tries st xs i
  unfolding tries
  counted zero h k e = absurd (omega arith)
  counted (suc i) h k e = e

  pub no_event : row ≡ 0 → Matches st xs row NoEvent 0
  unfolding answer_of tries number_of
  no_event e = record { is = rw e refl; count = rw e refl }

  pub trying_first : Trying xs 0 0
  unfolding best_of
  trying_first = record { best = omega arith; count = omega arith }

  module _ {x : Alternative} {rest : List Alternative} {k b : ℕ} (before : Trying (x ∷ rest) k b) where
    pub trying_more : (at_row st row x ≡ 2 → ⊥) → Trying rest (k + 1) (max b (at_row st row x))
    unfolding greatest_of tried
    trying_more h =
        let e = before.best in
        let f = rw (ne_eqb (at_row st row x) 2 h) at before.count in
        record { best = omega arith; count = omega arith }

    pub trying_yes : 0 < row → at_row st row x ≡ 2 → Matches st xs row Yes (k + 1)
    unfolding greatest_of tried number_of
    trying_yes h e =
        let f = before.best in
        let i = rw (eq-eqb (at_row st row x) 2 e) at before.count in
        record { is = answered row h 1 (yes_numbered _ (omega arith)); count = counted row h (k + 1) i }

  pub trying_end : {k b : ℕ} {a : Answer} → Trying [] k b → 0 < row → number_of a ≡ numbered b
      → Matches st xs row a k
  unfolding greatest_of tried
  trying_end t h n =
      let e = t.best in
      record {
        is = answered row h _ (n ∙ ap numbered (omega arith));
        count = counted row h _ (omega (arith, t.count));
      }
