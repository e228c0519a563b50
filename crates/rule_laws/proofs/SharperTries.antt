-- Document 02, [9], for the number tried: by the new rule a tame pattern tries no more alternatives.
--   Tests, tests_of_lem    a property of each test of a pattern's alternatives
--   tries_fall         no more tries
-- (Tests is alf/proofs/Conditions.antt's `Asks`, of a property of tests where that one has a property of operands.)
use Rattle.std.specs.Prelude.{if◌then◌else◌}
use mathlib.Core.Path.{◌≡◌, refl, ap, sym, ◌∙◌}
use mathlib.Core.Bool.{Bool, true, false, ◌&&◌, ◌||◌}
use mathlib.Core.List.{List, [], ◌∷◌, ◌++◌, map}
use mathlib.Core.Logic.{◌⊎◌, inl, inr}
use Prim.Native.Nat.{ℕ, zero, suc, ◌+◌, ◌-◌, ◌<◌, ◌≤◌, min}
use native.Mathlib.Omega.{arith}
use lib.Dec.{eqb}
use lib.ListN.{length, replicate}
use borrow.Author.Tests.{eq-eqb, ne_eqb}
use Rattle.basics.specs.Words.{least_of}
use Rattle.alf.specs.Expressions.{Boolean, the, Edge, pair, Vector, edge, join, while}
use Rattle.alf.specs.Expressions.{Join, followed_by_join, either_order, with_or_then, any_order, with, or_else}
use Rattle.alf.specs.Values.{old_rules_lem, new_rules, row_of, state_at}
use Rattle.alf.specs.Alternatives.{Test, test, Step, Alternative, padded, zipped, overlaid, conditioned, chained}
use Rattle.alf.specs.Alternatives.{overlapped, rewritten, alternatives, test_at, step_at, steps_from, at_row, tried, tries}
use Rattle.basics.proofs.Bools.{and_left, and_right, or_yes, below?}
use Rattle.basics.proofs.AllEntries.{All, none, more, all_append, all_map}
use Rattle.alf.proofs.EachAll.{all_each}
use Rattle.alf.proofs.RowsAreAlternatives.{row_on, row_off, row_small}
use Rattle.rule_laws.specs.Ternaries.{plain, apart, asks_digit, asks_digits, tame}
use Rattle.rule_laws.proofs.EqualBranches.{same_state, Resolved, state_resolved}
use Rattle.rule_laws.proofs.Sharper.{Sharper, sharper_same, sharper_min, test_sharper}

module _ (T : Test → Type 0) where
  abbrev pub Tests : Alternative → Type 0
  Tests = All (All T)

  tests_replicate : (k : ℕ) → Tests (replicate k [])
  tests_replicate zero = none
  tests_replicate (suc k) = more none (tests_replicate k)

  tests_zipped : (x y : Alternative) → Tests x → Tests y → Tests (zipped x y)
  unfolding zipped
  tests_zipped [] y s t = t
  tests_zipped (u ∷ x) [] s t = s
  tests_zipped (u ∷ x) (v ∷ y) (more h s) (more k t) = more (all_append h k) (tests_zipped x y s t)

  tests_overlaid : (x y : Alternative) → Tests x → Tests y → Tests (overlaid x y)
  unfolding overlaid padded
  tests_overlaid x y s t =
      tests_zipped _ _
      (all_append (tests_replicate (length y - length x)) s)
      (all_append (tests_replicate (length x - length y)) t)

  tests_conditioned : (c : Boolean) (x : Alternative) → T (test (pair (the 1) (the 1)) c) → Tests x
      → Tests (conditioned c x)
  unfolding conditioned
  tests_conditioned c x q s = all_map _ (λ u h. all_append h (more {x = test (pair (the 1) (the 1)) c} q none)) s

  chained_tests : {xs ys : List Alternative} → All Tests xs → All Tests ys → All Tests (chained xs ys)
  chained_tests = all_each ◌++◌ (λ x y s t. all_append s t)

  overlapped_tests : {xs ys : List Alternative} → All Tests xs → All Tests ys → All Tests (overlapped xs ys)
  overlapped_tests = all_each overlaid tests_overlaid

  rewritten_tests : (j : Join) {xs ys : List Alternative} → All Tests xs → All Tests ys
      → All Tests (rewritten j xs ys)
  unfolding rewritten
  rewritten_tests followed_by_join s t = chained_tests s t
  rewritten_tests either_order s t = all_append (chained_tests s t) (chained_tests t s)
  rewritten_tests with_or_then s t = all_append (overlapped_tests s t) (chained_tests s t)
  rewritten_tests any_order s t =
      all_append (all_append (chained_tests s t) (overlapped_tests s t)) (chained_tests t s)
  rewritten_tests with s t = overlapped_tests s t
  rewritten_tests or_else s t = all_append s t

-- the tests of a tame pattern
abbrev TameTest : Test → Type 0
TameTest (test e c) = (plain c || asks_digits e && apart c) ≡ true

one_tame : (c : Boolean) → apart c ≡ true → TameTest (test (pair (the 1) (the 1)) c)
unfolding asks_digits asks_digit
one_tame c h = rw h (or_yes (plain c))

tests_of_lem : (p : Vector) → tame p ≡ true → All (Tests TameTest) (alternatives p)
unfolding tame alternatives
tests_of_lem (edge e c) h = more {x = (test e c ∷ []) ∷ []} (more (more {x = test e c} h none) none) none
tests_of_lem (join j p q) h =
    rewritten_tests TameTest j (tests_of_lem p (and_left (tame p) (tame q) h)) (tests_of_lem q (and_right (tame p) (tame q) h))
tests_of_lem (while s p c) h =
    all_map (conditioned c) (λ x. tests_conditioned TameTest c x (one_tame c (and_right (tame p) (apart c) h)))
    (tests_of_lem p (and_left (tame p) (apart c) h))

module _ (names : ℕ) (states : List ℕ) where
  abbrev st : Boolean → ℕ → ℕ
  st = state_at old_rules_lem names states

  abbrev st' : Boolean → ℕ → ℕ
  st' = state_at new_rules names states

  test_near : (e : Edge) (c : Boolean) (a : ℕ) → TameTest (test e c)
      → Sharper (test_at st a (test e c)) (test_at st' a (test e c))
  unfolding test_at
  test_near e c a h =
      test_sharper st st' (λ d j k. same_state old_rules_lem new_rules (row_of names states j) d k)
      (λ d j k. state_resolved (row_of names states j) d k) e c a (a + 1) h

  step_sharper : (s : Step) (a : ℕ) → All TameTest s → Sharper (step_at st s a) (step_at st' s a)
  unfolding step_at least_of
  step_sharper [] a none = sharper_same 2 2 refl (omega arith)
  step_sharper (test e c ∷ s) a (more h k) = sharper_min _ _ _ _ (test_near e c a h) (step_sharper s a k)

  steps_sharper : (x : Alternative) (a : ℕ) → Tests TameTest x → Sharper (steps_from st x a) (steps_from st' x a)
  unfolding steps_from
  steps_sharper [] a none = sharper_same 2 2 refl (omega arith)
  steps_sharper (s ∷ x) a (more h k) = sharper_min _ _ _ _ (step_sharper s a h) (steps_sharper x (a + 1) k)

  row_sharper : (i : ℕ) (x : Alternative) → Tests TameTest x → Sharper (at_row st i x) (at_row st' i x)
  row_sharper i x h = go (below? i (length x))
    where
      go : (i < length x) ⊎ (length x ≤ i) → Sharper (at_row st i x) (at_row st' i x)
      go (inl l) = rw (row_off st i x l, row_off st' i x l) (sharper_same 0 0 refl (omega arith))
      go (inr l) = rw (row_on st i x l, row_on st' i x l) (steps_sharper x (i - length x) h)

  tried_falls : (i : ℕ) (xs : List Alternative) → All (Tests TameTest) xs
      → tried (map (at_row st' i) xs) ≤ tried (map (at_row st i) xs)
  unfolding tried
  tried_falls i [] none = omega arith
  tried_falls i (x ∷ xs) (more h s) =
      go (below? (at_row st i x) 2) (below? (at_row st' i x) 2) (tried_falls i xs s)
    where
      go : (at_row st i x < 2) ⊎ (2 ≤ at_row st i x) → (at_row st' i x < 2) ⊎ (2 ≤ at_row st' i x)
          → tried (map (at_row st' i) xs) ≤ tried (map (at_row st i) xs)
          → (if eqb (at_row st' i x) 2 then 1 else 1 + tried (map (at_row st' i) xs))
          ≤ (if eqb (at_row st i x) 2 then 1 else 1 + tried (map (at_row st i) xs))
      go (inl l) (inl m) d =
          rw (ne_eqb (at_row st i x) 2 (λ e. omega arith), ne_eqb (at_row st' i x) 2 (λ e. omega arith)) (omega arith)
      go (inr l) (inl m) d = absurd (omega (arith, (row_sharper i x h).yes_kept))
      go (inl l) (inr m) d =
          rw (
            ne_eqb (at_row st i x) 2 (λ e. omega arith),
            eq-eqb (at_row st' i x) 2 (omega (arith, row_small st' i x)),
          )
          (omega arith)
      go (inr l) (inr m) d =
          rw (
            eq-eqb (at_row st i x) 2 (omega (arith, row_small st i x)),
            eq-eqb (at_row st' i x) 2 (omega (arith, row_small st' i x)),
          )
          (omega arith)

  pub tries_fall : (p : Vector) → tame p ≡ true → (i : ℕ)
      → tries st' (alternatives p) i ≤ tries st (alternatives p) i
  unfolding tries
  tries_fall p t zero = omega arith
  tries_fall p t (suc i) = tried_falls (suc i) (alternatives p) (tests_of_lem p t)
