-- The alternatives of an expression with pins (specs/Pinned), for any pins and any operands: as many as those of the
-- expression, each of as many steps, and the pins' tests behind those of the last step.
--   alternatives_pinned, pinned_at           those of a part with its pins' tests
--   pinned_number, pinned_length, pinned_tests, pinned_step     how many, how long; tests; step j
--   placed_number, placed_length             those of the expression with all its pins
--   tests_counted, pin_count_small           how many tests the pins of a part are
--   has_step                                 each alternative has a step
use Rattle.std.specs.Prelude.{if◌then◌else◌}
use Prim.Native.Nat.{ℕ, zero, suc, ◌+◌, ◌-◌, ◌<◌, ◌≤◌}
use native.Mathlib.Omega.{arith}
use mathlib.Core.Path.{◌≡◌, refl, ap, ap₂, sym, ◌∙◌}
use mathlib.Core.Bool.{Bool, true, false, not}
use mathlib.Core.List.{List, [], ◌∷◌, ◌++◌, map, append-nil}
use lib.Dec.{eqb}
use lib.ListN.{length, get_or, length-append, length-map}
use Rattle.basics.specs.Words.{count}
use Rattle.basics.proofs.AllEntries.{none, more}
use Rattle.basics.proofs.Counts.{count_small}
use Rattle.alf.specs.Expressions.{Boolean, stays, Vector, edge, join, while, with, Side, on_right, on_left}
use Rattle.alf.specs.Bytes.{boolean_bytes, vector_bytes}
use Rattle.alf.specs.Alternatives.{test, Step, Alternative, conditioned, rewritten, alternatives, tests}
use Rattle.alf.proofs.Lifting.{Steps}
use Rattle.alf.proofs.WindowsAreAlternatives.{every_has_steps}
use Rattle.steady_pins.specs.Pinned.{pin_at, pinned, pin_tests, by_places, pin_count_lem}
use Rattle.steady_pins.proofs.StepMaps.{rewritten_on, length_on}
use Rattle.steady_pins.proofs.LastSteps.{lastly, lastly_length, lastly_tests, last_of, lastly_step}
use Rattle.steady_pins.proofs.LastSteps.{lastly_none, lastly_twice, each_lastly}

-- each alternative has a step
steps_at : {xs : List Alternative} → Steps xs → (t : ℕ) → t < length xs → 0 < length (get_or xs t [])
steps_at none t l = absurd (omega arith)
steps_at (more h s) zero l = h
steps_at (more h s) (suc t) l = steps_at s t (omega arith)

pub has_step : (p : Vector) (t : ℕ) → t < length (alternatives p) → 0 < length (get_or (alternatives p) t [])
has_step p t l = steps_at (every_has_steps p) t l

map_lastly_none : (xs : List Alternative) → map (lastly []) xs ≡ xs
map_lastly_none [] = refl
map_lastly_none (x ∷ xs) = rw (lastly_none x, map_lastly_none xs) refl

map_lastly_twice : (u v : Step) (xs : List Alternative)
    → map (lastly v) (map (lastly u) xs) ≡ map (lastly (u ++ v)) xs
map_lastly_twice u v [] = refl
map_lastly_twice u v (x ∷ xs) = rw (lastly_twice u v x, map_lastly_twice u v xs) refl

lastly_at : (u : Step) (xs : List Alternative) (t : ℕ) → get_or (map (lastly u) xs) t [] ≡ lastly u (get_or xs t [])
unfolding lastly
lastly_at u [] t = refl
lastly_at u (x ∷ xs) zero = refl
lastly_at u (x ∷ xs) (suc t) = lastly_at u xs t

-- an alternative with all its steps empty
abbrev blank : Alternative → Alternative
blank = map (λ s. [])

blank_lastly : (u : Step) (x : Alternative) → blank (lastly u x) ≡ blank x
unfolding lastly
blank_lastly u [] = refl
blank_lastly u (s ∷ []) = refl
blank_lastly u (s ∷ t ∷ x) = ap (◌∷◌ []) (blank_lastly u (t ∷ x))

blanks_lastly : (u : Step) (xs : List Alternative) → map blank (map (lastly u) xs) ≡ map blank xs
blanks_lastly u [] = refl
blanks_lastly u (x ∷ xs) = rw (blank_lastly u x, blanks_lastly u xs) refl

blank_conditioned : (c : Boolean) (x : Alternative) → blank (conditioned c x) ≡ blank x
unfolding conditioned
blank_conditioned c [] = refl
blank_conditioned c (s ∷ x) = ap (◌∷◌ []) (blank_conditioned c x)

blanks_conditioned : (c : Boolean) (xs : List Alternative) → map blank (map (conditioned c) xs) ≡ map blank xs
blanks_conditioned c [] = refl
blanks_conditioned c (x ∷ xs) = rw (blank_conditioned c x, blanks_conditioned c xs) refl

blanks_while : (s : Side) (q p : Vector) (d c : Boolean) → map blank (alternatives q) ≡ map blank (alternatives p)
    → map blank (alternatives (while s q d)) ≡ map blank (alternatives (while s p c))
unfolding alternatives
blanks_while s q p d c e =
    blanks_conditioned d (alternatives q) ∙ e ∙ sym (blanks_conditioned c (alternatives p))

pub pin_count_small : (pins : List ℕ) (end n : ℕ) → pin_count_lem pins end n ≤ n
pin_count_small pins end n = count_small n _

-- one entry more
counted_next : (b : Bool) (c : Boolean) (u : Step) {k : ℕ} → length u ≡ k
    → length (u ++ (if b then [] else test stays c ∷ [])) ≡ k + (if not b then 1 else 0)
counted_next true c u e = let d = length-append u [] in omega arith
counted_next false c u e = let d = length-append u (test stays c ∷ []) in omega arith

pinned_next : (b : Bool) (c : Boolean) (q p : Vector) (u : Step)
    → alternatives q ≡ map (lastly u) (alternatives p)
    → alternatives (if b then q else join with q (edge stays c))
    ≡ map (lastly (u ++ (if b then [] else test stays c ∷ []))) (alternatives p)
unfolding alternatives rewritten
pinned_next true c q p u e = rw (append-nil u) e
pinned_next false c q p u e =
    each_lastly (test stays c ∷ []) (every_has_steps q) ∙ ap (map (lastly (test stays c ∷ []))) e
    ∙ map_lastly_twice u (test stays c ∷ []) (alternatives p)

module _ (operand : ℕ → Boolean) (pins : List ℕ) where
  pub tests_counted : (n end : ℕ) → length (pin_tests operand pins n end) ≡ pin_count_lem pins end n
  unfolding pin_tests count
  tests_counted zero end = refl
  tests_counted (suc n) end =
      counted_next (eqb (pin_at pins end n) 0) (operand (pin_at pins end n)) (pin_tests operand pins n end)
      (tests_counted n end)

  -- a part with its pins' tests
  pub alternatives_pinned : (n end : ℕ) (p : Vector)
      → alternatives (pinned operand pins n end p) ≡ map (lastly (pin_tests operand pins n end)) (alternatives p)
  unfolding pinned pin_tests
  alternatives_pinned zero end p = sym (map_lastly_none (alternatives p))
  alternatives_pinned (suc n) end p =
      pinned_next (eqb (pin_at pins end n) 0) (operand (pin_at pins end n)) (pinned operand pins n end p) p
      (pin_tests operand pins n end) (alternatives_pinned n end p)

  module _ (n end : ℕ) (p : Vector) where
    pub pinned_number : length (alternatives (pinned operand pins n end p)) ≡ length (alternatives p)
    pinned_number = ap length (alternatives_pinned n end p) ∙ length-map (alternatives p) _

    module _ (t : ℕ) where
      pub pinned_at : get_or (alternatives (pinned operand pins n end p)) t []
          ≡ lastly (pin_tests operand pins n end) (get_or (alternatives p) t [])
      pinned_at =
          ap (λ (xs : List Alternative). get_or xs t []) (alternatives_pinned n end p)
          ∙ lastly_at (pin_tests operand pins n end) (alternatives p) t

      pub pinned_length : length (get_or (alternatives (pinned operand pins n end p)) t [])
          ≡ length (get_or (alternatives p) t [])
      pinned_length = ap length pinned_at ∙ lastly_length _ (get_or (alternatives p) t [])

      pub pinned_tests : t < length (alternatives p)
          → tests (get_or (alternatives (pinned operand pins n end p)) t [])
          ≡ tests (get_or (alternatives p) t []) + pin_count_lem pins end n
      pinned_tests l =
          ap tests pinned_at ∙ lastly_tests _ (get_or (alternatives p) t []) (has_step p t l)
          ∙ ap (◌+◌ (tests (get_or (alternatives p) t []))) (tests_counted n end)

      pub pinned_step : (j : ℕ)
          → get_or (get_or (alternatives (pinned operand pins n end p)) t []) j []
          ≡ get_or (get_or (alternatives p) t []) j []
          ++ last_of (pin_tests operand pins n end) (length (get_or (alternatives p) t [])) j
      pinned_step j =
          ap (λ (x : Alternative). get_or x j []) pinned_at ∙ lastly_step _ (get_or (alternatives p) t []) j

  blanks_pinned : (n end : ℕ) (p : Vector)
      → map blank (alternatives (pinned operand pins n end p)) ≡ map blank (alternatives p)
  blanks_pinned n end p = ap (map blank) (alternatives_pinned n end p) ∙ blanks_lastly _ (alternatives p)

  -- the expression with all its pins: with all steps empty it is the expression
  blanks_placed : (end : ℕ) (p : Vector)
      → map blank (alternatives (by_places operand pins end p)) ≡ map blank (alternatives p)
  unfolding by_places alternatives
  blanks_placed end (edge e c) = blanks_pinned 32 end _
  blanks_placed end (join j p q) =
      blanks_pinned 32 end _
      ∙ sym (rewritten_on (λ s. []) refl (λ s t. refl) j _ _)
      ∙ ap₂ (rewritten j) (blanks_placed (end - 1 - length (vector_bytes q)) p) (blanks_placed (end - 1) q)
      ∙ rewritten_on (λ s. []) refl (λ s t. refl) j (alternatives p) (alternatives q)
  blanks_placed end (while on_right p c) =
      let m = end - 1 - length (boolean_bytes c) in
      blanks_while on_right (by_places operand pins m p) p (operand (end - 1)) c (blanks_placed m p)
  blanks_placed end (while on_left p c) =
      let d = operand (end - 1 - length (vector_bytes p)) in
      blanks_while on_left (by_places operand pins (end - 1) p) p d c (blanks_placed (end - 1) p)

  pub placed_number : (end : ℕ) (p : Vector)
      → length (alternatives (by_places operand pins end p)) ≡ length (alternatives p)
  placed_number end p =
      sym (length-map (alternatives (by_places operand pins end p)) blank)
      ∙ ap length (blanks_placed end p) ∙ length-map (alternatives p) blank

  pub placed_length : (end : ℕ) (p : Vector) (t : ℕ)
      → length (get_or (alternatives (by_places operand pins end p)) t []) ≡ length (get_or (alternatives p) t [])
  placed_length end p t =
      sym (length_on (λ s. []) (alternatives (by_places operand pins end p)) t)
      ∙ ap (λ (xs : List Alternative). length (get_or xs t [])) (blanks_placed end p)
      ∙ length_on (λ s. []) (alternatives p) t
