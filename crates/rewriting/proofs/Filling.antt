-- The lists of a tree, one step and one alternative after the other: what is known when those before are written.
--   mapped_there, mapped_at                      an entry of f of each thing
--   Counting, counting_first, -next, -end        how long the lists are
--   Walking, walking_first, -next, -end          the steps of an alternative
--   Filling, filling_first, -next, -end          the alternatives
use Prim.Native.Nat.{ℕ, zero, suc, ◌+◌, ◌-◌, ◌<◌, ◌≤◌}
use native.Mathlib.Omega.{arith}
use mathlib.Core.Path.{◌≡◌, refl, ap, sym, ◌∙◌}
use mathlib.Core.List.{List, [], ◌∷◌, ◌++◌, map, map-append}
use lib.ListN.{length, get_or, take, set, length-append, length-map}
use lib.Seq.{sets, length-sets, take_all}
use Rattle.alf.specs.Alternatives.{Alternative}
use Rattle.step_tests.specs.OperandPlaces.{numbers, ends}
use Rattle.step_tests.specs.Steps.{Put}
use Rattle.rewriting.specs.Lists.{joined, step_list, test_list, edge_list, operand_list, Long, Filled}
use Rattle.rewriting.proofs.Joining.{joined_append, joined_next, joined_part}
use Rattle.step_tests.proofs.Puts.{put_none, put_then, put_lengths}
use Rattle.basics.proofs.Entries.{get_d_map}
use Rattle.basics.proofs.Stores.{sets_append, sets_front, Writing, writing_first, writing_length, writing_next}
use Rattle.basics.proofs.Stores.{writing_next_front, writing_end, writing_front}

-- f of each of some things: an entry, and stores of some things more
module _ {A : Type 0} (f : A → ℕ) (xs : List A) {t : ℕ} where
  pub mapped_there : t < length xs → t < length (map f xs)
  mapped_there h = rw length-map h

  pub mapped_at : (d : A) {v : ℕ} → t < length xs → v ≡ f (get_or xs t d) → v ≡ get_or (map f xs) t 0
  mapped_at d h e = e ∙ sym (get_d_map f xs t d 0 h)

sets_more : {A : Type 0} (f : A → ℕ) (l : List ℕ) (xs ys : List A) {s : ℕ} → s ≡ length xs
    → sets (sets l 0 (map f xs)) s (map f ys) ≡ sets l 0 (map f (xs ++ ys))
sets_more f l xs ys e =
    let n : 0 + length (map f xs) ≡ length xs = omega (arith, length-map xs f) in
    rw (e, map-append f xs ys, ← n) (sets_append l 0 (map f xs) (map f ys))

-- the tests of one alternative more
tests_next : (xs : List Alternative) (t : ℕ) → t < length xs
    → joined (joined (take (t + 1) xs)) ≡ joined (joined (take t xs)) ++ joined (get_or xs t [])
tests_next xs t l = ap joined (joined_next xs t l) ∙ joined_append (joined (take t xs)) (get_or xs t [])

tests_part : (xs : List Alternative) (t : ℕ) → t < length xs
    → length (joined (joined (take t xs))) + length (joined (get_or xs t [])) ≤ length (joined (joined xs))
unfolding joined
tests_part [] t l = absurd (omega arith)
tests_part (x ∷ xs) zero l =
    omega (arith, ap length (joined_append x (joined xs)) ∙ length-append (joined x) (joined (joined xs)))
tests_part (x ∷ xs) (suc t) l =
    let e = tests_part xs t (omega arith) in
    let d = ap length (joined_append x (joined xs)) ∙ length-append (joined x) (joined (joined xs)) in
    let g =
    ap length (joined_append x (joined (take t xs))) ∙ length-append (joined x) (joined (joined (take t xs))) in
    omega arith

-- how long the lists are
pub record Counting (xs : List Alternative) (steps tests t : ℕ) : Type 0 where
  pub within : t ≤ length xs
  pub steps_are : steps ≡ length (joined (take t xs))
  pub tests_are : tests ≡ length (joined (joined (take t xs)))

pub counting_first : {xs : List Alternative} → Counting xs 0 0 0
unfolding joined
counting_first = record { within = omega arith; steps_are = refl; tests_are = refl }

module _ {xs : List Alternative} {s n t : ℕ} (g : Counting xs s n t) where
  pub counting_room : t < length xs
      → (s + length (get_or xs t []) ≤ length (joined xs))
      × (n + length (joined (get_or xs t [])) ≤ length (joined (joined xs)))
  counting_room l = (
    omega (arith, g.steps_are, joined_part xs t l),
    omega (arith, g.tests_are, tests_part xs t l),
  )

  pub counting_next : {a b : ℕ} → t < length xs → a ≡ length (get_or xs t [])
      → b ≡ length (joined (get_or xs t []))
      → Counting xs (s + a) (n + b) (t + 1)
  counting_next l e d =
      record {
        within = omega arith;
        steps_are = omega (
          arith,
          g.steps_are,
          ap length (joined_next xs t l) ∙ length-append (joined (take t xs)) (get_or xs t []),
        );
        tests_are = omega (
          arith,
          g.tests_are,
          ap length (tests_next xs t l) ∙ length-append (joined (joined (take t xs))) (joined (get_or xs t [])),
        );
      }

  pub counting_end : {count : ℕ} → count ≡ length xs → count ≤ t → Long xs count s n
  counting_end e l =
      let d = take_all t xs (omega arith) in
      record {
        alternatives_are = e;
        steps_are = g.steps_are ∙ rw d refl;
        tests_are = g.tests_are ∙ rw d refl;
      }

-- the steps of an alternative
pub record Walking (x : Alternative) (tests₀ : List ℕ) (s : ℕ) (edges₀ operands₀ : List ℕ) (from : ℕ)
    (tests edges operands : List ℕ) (at j : ℕ) : Type 0 where
  pub within : j ≤ length x
  pub counts : Writing tests₀ s (map length x) tests j
  pub put : Put (joined (take j x)) from edges₀ operands₀ at edges operands

module _ {x : Alternative} {tests₀ : List ℕ} {s : ℕ} {edges₀ operands₀ : List ℕ} {from : ℕ} where
  pub walking_first : Walking x tests₀ s edges₀ operands₀ from tests₀ edges₀ operands₀ from 0
  unfolding joined
  walking_first = record { within = omega arith; counts = writing_first; put = put_none }

  module _ {tests edges operands : List ℕ} {at j : ℕ}
      (g : Walking x tests₀ s edges₀ operands₀ from tests edges operands at j) where
    pub walking_lengths : (length tests ≡ length tests₀) × (length edges ≡ length edges₀)
        × (length operands ≡ length operands₀)
    walking_lengths =
        let p = put_lengths g.put in
        (writing_length g.counts, p.0, p.1)

    pub walking_room : j < length x → at + length (get_or x j []) ≤ from + length (joined x)
    walking_room l = omega (arith, g.put.next_is, joined_part x j l)

    pub walking_next : {edges' operands' : List ℕ} {next v : ℕ} → j < length x
        → Put (get_or x j []) at edges operands next edges' operands' → v ≡ next - at
        → Walking x tests₀ s edges₀ operands₀ from (set tests (s + j) v) edges' operands' next (j + 1)
    walking_next {v = v} l p e =
        let n : v ≡ length (get_or x j []) = omega (arith, p.next_is) in
        record {
          within = omega arith;
          counts = writing_next g.counts (mapped_there length x l) (mapped_at length x [] l n);
          put = rw (joined_next x j l) (put_then g.put p);
        }

    pub walking_end : length x ≤ j → (tests ≡ sets tests₀ s (map length x))
        × Put (joined x) from edges₀ operands₀ at edges operands
    walking_end l =
        let e = take_all j x l in
        (writing_end g.counts (omega (arith, length-map x length)), rw e at g.put)

-- the alternatives
pub record Filling (xs : List Alternative)
    (steps₀ tests₀ edges₀ operands₀ steps tests edges operands : List ℕ)
    (s from t : ℕ) : Type 0 where
  pub within : t ≤ length xs
  pub steps_are : Writing steps₀ 0 (map length xs) steps t
  pub tests_are : tests ≡ sets tests₀ 0 (map length (joined (take t xs)))
  pub put : Put (joined (joined (take t xs))) 0 edges₀ operands₀ from edges operands
  pub passed : s ≡ length (joined (take t xs))

module _ {xs : List Alternative} {steps₀ tests₀ edges₀ operands₀ : List ℕ} where
  pub filling_first : Filling xs steps₀ tests₀ edges₀ operands₀ steps₀ tests₀ edges₀ operands₀ 0 0 0
  unfolding joined
  filling_first =
      record { within = omega arith; steps_are = writing_first; tests_are = refl; put = put_none; passed = refl }

  module _ {steps tests edges operands : List ℕ} {s from t : ℕ}
      (g : Filling xs steps₀ tests₀ edges₀ operands₀ steps tests edges operands s from t) where
    pub filling_lengths : (length steps ≡ length steps₀) × (length tests ≡ length tests₀)
        × (length edges ≡ length edges₀) × (length operands ≡ length operands₀)
    filling_lengths =
        let p = put_lengths g.put in (
          writing_length g.steps_are,
          ap length g.tests_are ∙ length-sets tests₀ 0 (map length (joined (take t xs))),
          p.0,
          p.1,
        )

    pub filling_room : t < length xs → (s + length (get_or xs t []) ≤ length (joined xs))
        × (from + length (joined (get_or xs t [])) ≤ length (joined (joined xs)))
    filling_room l = (
      omega (arith, g.passed, joined_part xs t l),
      omega (arith, g.put.next_is, tests_part xs t l),
    )

    pub filling_next : {tests' edges' operands' : List ℕ} {next n : ℕ} → t < length xs
        → n ≡ length (get_or xs t [])
        → tests' ≡ sets tests s (map length (get_or xs t []))
        → Put (joined (get_or xs t [])) from edges operands next edges' operands'
        → Filling xs steps₀ tests₀ edges₀ operands₀ (set steps t n) tests' edges' operands'
        (s + n) next (t + 1)
    filling_next l e d p =
        record {
          within = omega arith;
          steps_are = writing_next_front g.steps_are (mapped_there length xs l) (mapped_at length xs [] l e);
          tests_are = d ∙ rw (g.tests_are, joined_next xs t l)
              (sets_more length tests₀ (joined (take t xs)) (get_or xs t []) g.passed);
          put = rw (tests_next xs t l) (put_then g.put p);
          passed = omega (
            arith,
            g.passed,
            ap length (joined_next xs t l) ∙ length-append (joined (take t xs)) (get_or xs t []),
          );
        }

    pub filling_end : length xs ≤ t → length xs ≤ length steps₀ → length (joined xs) ≤ length tests₀
        → length (joined (joined xs)) ≤ length edges₀ → length (joined (joined xs)) ≤ length operands₀
        → Filled xs steps₀ tests₀ edges₀ operands₀ steps tests edges operands
    unfolding step_list test_list edge_list operand_list
    filling_end l a b c d =
        let e = take_all t xs l in
        let p = rw e at g.put in
        record {
          steps_are = writing_front g.steps_are (rw length-map l) (rw length-map a);
          tests_are = rw e at g.tests_are ∙ sets_front tests₀ (map length (joined xs)) (rw length-map b);
          edges_are = p.edges_is ∙ sets_front edges₀ (numbers (joined (joined xs))) (rw length-map c);
          operands_are = p.operands_is ∙ sets_front operands₀ (ends (joined (joined xs))) (rw length-map d);
        }
