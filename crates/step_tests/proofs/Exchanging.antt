-- Rewriting looks at no edge and no operand: with each edge exchanged by g and each boolean operand by f, an expression
-- has the same alternatives with each test's edge and operand exchanged so, where g keeps `11`, which rewriting adds.
-- An expression by its places, with pins, and its operands exchanged is the one by its places with the operands so.
-- Main names: tests_on, test_on, alternatives_on; pinned_on_lem, placed_on; placed_same.
use Rattle.std.specs.Prelude.{if◌then◌else◌}
use Prim.Native.Nat.{ℕ, zero, suc, ◌-◌}
use mathlib.Core.Path.{◌≡◌, refl, ap, sym, ◌∙◌}
use mathlib.Core.Bool.{Bool, true, false}
use mathlib.Core.List.{List, [], ◌∷◌, map, map-append}
use lib.Dec.{eqb}
use lib.ListN.{length}
use Rattle.alf.specs.Expressions.{Boolean, literal, the, Edge, pair, stays, Vector, edge, join, while, with}
use Rattle.alf.specs.Expressions.{on_right, on_left}
use Rattle.alf.specs.Bytes.{boolean_bytes, vector_bytes}
use Rattle.alf.specs.Alternatives.{Test, test, Step, Alternative, conditioned, alternatives}
use Rattle.steady_pins.specs.Pinned.{pin_at, pinned, by_places}
use Rattle.steady_pins.proofs.StepMaps.{rewritten_on}

unfoldable pub tests_on : (Edge → Edge) → (Boolean → Boolean) → Vector → Vector
tests_on g f (edge e c) = edge (g e) (f c)
tests_on g f (join j p q) = join j (tests_on g f p) (tests_on g f q)
tests_on g f (while s p c) = while s (tests_on g f p) (f c)

unfoldable pub test_on : (Edge → Edge) → (Boolean → Boolean) → Test → Test
test_on g f (test e c) = test (g e) (f c)

module _ (g : Edge → Edge) (f : Boolean → Boolean) where
  abbrev pub step_on : Step → Step
  step_on = map (test_on g f)

  abbrev pub alternative_on : Alternative → Alternative
  alternative_on = map step_on

  module _ (kept : g (pair (the 1) (the 1)) ≡ pair (the 1) (the 1)) where
    condition_on : (c : Boolean) (x : Alternative)
        → conditioned (f c) (alternative_on x) ≡ alternative_on (conditioned c x)
    unfolding conditioned test_on
    condition_on c [] = refl
    condition_on c (s ∷ x) =
        let e = map-append (test_on g f) s (test (pair (the 1) (the 1)) c ∷ []) in rw (e, condition_on c x, kept) refl

    conditioned_on : (c : Boolean) (xs : List Alternative)
        → map (conditioned (f c)) (map alternative_on xs) ≡ map alternative_on (map (conditioned c) xs)
    conditioned_on c [] = refl
    conditioned_on c (x ∷ xs) = rw (condition_on c x, conditioned_on c xs) refl

  pub alternatives_on : g (pair (the 1) (the 1)) ≡ pair (the 1) (the 1) → (p : Vector)
      → alternatives (tests_on g f p) ≡ map alternative_on (alternatives p)
  unfolding alternatives tests_on test_on
  alternatives_on k (edge e c) = refl
  alternatives_on k (join j p q) =
      rw (alternatives_on k p, alternatives_on k q)
      (rewritten_on step_on refl (map-append (test_on g f)) j (alternatives p) (alternatives q))
  alternatives_on k (while s p c) = rw (alternatives_on k p) (conditioned_on k c (alternatives p))

-- a part with its pins, where g keeps `?-`
keep_pin : (g : Edge → Edge) (f : Boolean → Boolean) → g stays ≡ stays → (b : Bool) (c : Boolean) (p q : Vector)
    → tests_on g f p ≡ q
    → tests_on g f (if b then p else join with p (edge stays c))
    ≡ (if b then q else join with q (edge stays (f c)))
unfolding tests_on
keep_pin g f k true c p q e = e
keep_pin g f k false c p q e = rw (e, k) refl

module _ (g : Edge → Edge) (f : Boolean → Boolean) (kept : g stays ≡ stays) (operand : ℕ → Boolean)
    (pins : List ℕ) where
  pub pinned_on_lem : (n end : ℕ) (p : Vector)
      → tests_on g f (pinned operand pins n end p) ≡ pinned (λ k. f (operand k)) pins n end (tests_on g f p)
  unfolding pinned
  pinned_on_lem zero end p = refl
  pinned_on_lem (suc n) end p =
      keep_pin g f kept (eqb (pin_at pins end n) 0) (operand (pin_at pins end n)) (pinned operand pins n end p)
      (pinned (λ k. f (operand k)) pins n end (tests_on g f p)) (pinned_on_lem n end p)

-- the operands exchanged, the edges kept
module _ (f : Boolean → Boolean) (operand : ℕ → Boolean) (pins : List ℕ) where
  pub placed_on : (end : ℕ) (p : Vector)
      → tests_on (λ e. e) f (by_places operand pins end p) ≡ by_places (λ k. f (operand k)) pins end p
  unfolding by_places tests_on
  placed_on end (edge e c) = pinned_on_lem (λ e. e) f refl operand pins 32 end (edge e (operand (end - 1)))
  placed_on end (join j p q) =
      pinned_on_lem (λ e. e) f refl operand pins 32 end
      (join j (by_places operand pins (end - 1 - length (vector_bytes q)) p) (by_places operand pins (end - 1) q))
      ∙ rw (placed_on (end - 1 - length (vector_bytes q)) p, placed_on (end - 1) q) refl
  placed_on end (while on_right p c) = rw (placed_on (end - 1 - length (boolean_bytes c)) p) refl
  placed_on end (while on_left p c) = rw (placed_on (end - 1) p) refl

-- so alternatives that differ in what the places stand for differ in the operands alone
pub placed_same : (a b : ℕ → Boolean) (pins : List ℕ) (end : ℕ) (p : Vector)
    → map (alternative_on (λ e. e) (λ c. literal 0)) (alternatives (by_places a pins end p))
    ≡ map (alternative_on (λ e. e) (λ c. literal 0)) (alternatives (by_places b pins end p))
placed_same a b pins end p =
    sym (alternatives_on (λ e. e) (λ c. literal 0) refl (by_places a pins end p))
    ∙ ap alternatives (placed_on (λ c. literal 0) a pins end p ∙ sym (placed_on (λ c. literal 0) b pins end p))
    ∙ alternatives_on (λ e. e) (λ c. literal 0) refl (by_places b pins end p)
