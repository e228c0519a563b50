-- The greatest over the alternatives, one after the other, and limit 8.
-- Main names: first_measure, next_measure, measured_all, chosen_at; over_number, over_steps, over_tests, within.
use Rattle.std.specs.Prelude.{None, Some}
use Prim.Native.Nat.{ℕ, ◌+◌, ◌<◌, ◌≤◌, min, max}
use native.Mathlib.Omega.{arith}
use native.Mathlib.Numerals.{add-one}
use native.Mathlib.Nat.{le_antisymm}
use mathlib.Core.Path.{◌≡◌, refl, ◌∙◌}
use mathlib.Core.Bool.{true, false}
use mathlib.Core.List.{List, []}
use lib.Dec.{ltb}
use lib.ListN.{length, get_or, take}
use lib.Seq.{take-suc, take-length}
use borrow.Author.Tests.{lt-ltb, le-ltb}
use Rattle.basics.specs.Words.{greatest_of}
use Rattle.alf.specs.Expressions.{Vector}
use Rattle.alf.specs.Alternatives.{Alternative, alternatives, tests, number_of_alternatives, steps_of, tests_of, over_limit}
use Rattle.basics.proofs.Extremes.{greatest_of_append}
use Rattle.trees.specs.Parts.{EndsVector, vector_at}
use Rattle.acceptance.specs.Sizes.{Chosen, Shaped, measured}

-- the greatest steps and tests of the first t of some alternatives, counted no further than 65
pub record Measuring (xs : List Alternative) (t steps tested : ℕ) : Type 0 where
  pub low : t ≤ length xs
  pub steps_is : steps ≡ min 65 (greatest_of length (take t xs))
  pub tests_is : tested ≡ min 65 (greatest_of tests (take t xs))

pub first_measure : (xs : List Alternative) → Measuring xs 0 0 0
unfolding greatest_of
first_measure xs = record { low = omega arith; steps_is = refl; tests_is = refl }

greatest_next : (f : Alternative → ℕ) (xs : List Alternative) (t : ℕ) → t < length xs
    → greatest_of f (take (t + 1) xs) ≡ max (greatest_of f (take t xs)) (f (get_or xs t []))
unfolding greatest_of
greatest_next f xs t l =
    rw (add-one, take-suc xs t [] l) (greatest_of_append f (take t xs) _ ∙ omega arith)

pub next_measure : {xs : List Alternative} {t s n a b : ℕ} → Measuring xs t s n → t < length xs
    → Shaped (get_or xs t []) a b → Measuring xs (t + 1) (max s a) (max n b)
next_measure {xs} {t} m l h =
    let e = greatest_next length xs t l in
    let d = greatest_next tests xs t l in
    record {
      low = omega arith;
      steps_is = omega (arith, m.steps_is, h.steps_is);
      tests_is = omega (arith, m.tests_is, h.tests_is);
    }

-- an alternative below a number within the limit is there
pub chosen_at : {t : List ℕ} {names end a n : ℕ} → EndsVector t names end
    → n ≡ min 65 (number_of_alternatives (vector_at t names end)) → n ≤ 64 → a < n → Chosen t names end a
chosen_at h e l k = record { ends = h; there = omega arith; few = omega arith }

pub chosen_there : {t : List ℕ} {names end a : ℕ} → Chosen t names end a
    → a < length (alternatives (vector_at t names end))
unfolding number_of_alternatives
chosen_there h = h.there

pub measured_all : {xs : List Alternative} {t n s k : ℕ} → Measuring xs t s k → t ≤ n → n ≤ t
    → Measuring xs n s k
measured_all m l u = let e : ◌≡◌ {A = ℕ} _ _ = le_antisymm l u in rw e at m

-- limit 8
module _ (p : Vector) where
  over : over_limit (alternatives p) ≡ true → None ≡ measured p
  unfolding measured
  over e = rw e refl

  pub over_number : {n : ℕ} → n ≡ min 65 (number_of_alternatives p) → 64 < n → None ≡ measured p
  unfolding number_of_alternatives over_limit
  over_number e l = let h : 64 < length (alternatives p) = omega arith in over (rw (lt-ltb _ _ h) refl)

  module _ {n s k : ℕ} (m : Measuring (alternatives p) n s k) (e : n ≡ min 65 (number_of_alternatives p))
      (l : n ≤ 64)
    where
      all : n ≡ length (alternatives p)
      unfolding number_of_alternatives
      all = omega arith

      steps : s ≡ min 65 (greatest_of length (alternatives p))
      steps = m.steps_is ∙ rw (all, take-length) refl

      tested : k ≡ min 65 (greatest_of tests (alternatives p))
      tested = m.tests_is ∙ rw (all, take-length) refl

      few : ltb 64 (length (alternatives p)) ≡ false
      few = let a = all in le-ltb 64 (length (alternatives p)) (omega arith)

      pub over_steps : 16 < s → None ≡ measured p
      unfolding over_limit
      over_steps h =
          let g = steps in
          let x : 16 < greatest_of length (alternatives p) = omega arith in
          over (rw (few, lt-ltb 16 _ x) refl)

      pub over_tests : s ≤ 16 → 64 < k → None ≡ measured p
      unfolding over_limit
      over_tests h j =
          let g = steps in
          let f = tested in
          let x : greatest_of length (alternatives p) ≤ 16 = omega arith in
          let y : 64 < greatest_of tests (alternatives p) = omega arith in
          over (rw (few, le-ltb 16 _ x, lt-ltb 64 _ y) refl)

      pub within : s ≤ 16 → k ≤ 64 → Some (record { alternatives = n; steps = s; tests = k }) ≡ measured p
      unfolding over_limit measured number_of_alternatives steps_of tests_of
      within h j =
          let g = steps in
          let f = tested in
          let x : greatest_of length (alternatives p) ≤ 16 = omega arith in
          let y : greatest_of tests (alternatives p) ≤ 64 = omega arith in
          let u : s ≡ greatest_of length (alternatives p) = omega arith in
          let v : k ≡ greatest_of tests (alternatives p) = omega arith in
          rw (few, le-ltb 16 _ x, le-ltb 64 _ y, all, u, v) refl
