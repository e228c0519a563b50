-- The size of a tree with its pins, one alternative after the other, whatever its operands are.
-- Main names: MeasuringAt, first_at, next_at, all_at; shaping_at; over_number_at, over_steps_at, over_tests_at,
-- within_at; tree_pinned, measured_meant.
use Rattle.std.specs.Prelude.{None, Some}
use Prim.Native.Nat.{ℕ, ◌+◌, ◌<◌, ◌≤◌, min, max}
use native.Mathlib.Omega.{arith}
use mathlib.Core.Path.{◌≡◌, ap, ◌∙◌}
use mathlib.Core.List.{List}
use lib.ListN.{length}
use Rattle.alf.specs.Expressions.{Boolean, Vector}
use Rattle.alf.specs.Alternatives.{alternatives, number_of_alternatives}
use Rattle.alf.specs.Steady.{meant}
use Rattle.alf.specs.declared.Rules.{Rules}
use Rattle.trees.specs.Parts.{vector_at, boolean_at}
use Rattle.steady_pins.specs.Pinned.{by_places}
use Rattle.steady_pins.specs.Finding.{Tree, pins_of}
use Rattle.steady_pins.proofs.PinnedAlternatives.{placed_number}
use Rattle.steady_pins.proofs.Found.{found_means, found_pins}
use Rattle.acceptance.specs.Sizes.{Measured}
use Rattle.acceptance.specs.Sizes.{Shaping, ShapedAt, measured, PinnedTree, MeasuredAt}
use Rattle.acceptance.proofs.Measures.{Measuring, first_measure, next_measure, measured_all, chosen_at}
use Rattle.acceptance.proofs.Measures.{over_number, over_steps, over_tests, within}

-- the greatest of the first t alternatives
pub record MeasuringAt (pins tree : List ℕ) (names end t steps tested : ℕ) : Type 0 where
  pub given : (operand : ℕ → Boolean)
      → Measuring (alternatives (by_places operand pins end (vector_at tree names end))) t steps tested

number_placed : (operand : ℕ → Boolean) (pins : List ℕ) (end : ℕ) (p : Vector) {n : ℕ}
    → n ≡ min 65 (number_of_alternatives p) → n ≡ min 65 (number_of_alternatives (by_places operand pins end p))
unfolding number_of_alternatives
number_placed operand pins end p e = let d = placed_number operand pins end p in omega arith

module _ {pins tree : List ℕ} {names end : ℕ} where
  pub first_at : MeasuringAt pins tree names end 0 0 0
  first_at = record { given = λ operand. first_measure _ }

  -- an alternative below a number within the limit is there
  pub shaping_at : {a n : ℕ} → PinnedTree pins tree names end
      → n ≡ min 65 (number_of_alternatives (vector_at tree names end)) → n ≤ 64 → a < n
      → Shaping pins tree names end a
  shaping_at h e l k = record { chosen = chosen_at h.ends e l k; small = h.small; long = h.long }

  pub next_at : {t s n a b : ℕ} → MeasuringAt pins tree names end t s n → Shaping pins tree names end t
      → ShapedAt pins tree names end t a b → MeasuringAt pins tree names end (t + 1) (max s a) (max n b)
  unfolding number_of_alternatives
  next_at {t = t} m c h =
      record { given = λ operand. next_measure (m.given operand) (there operand) (h.given operand) }
    where
      there : (operand : ℕ → Boolean)
          → t < length (alternatives (by_places operand pins end (vector_at tree names end)))
      there operand = rw (placed_number operand pins end (vector_at tree names end)) c.chosen.there

  pub all_at : {t n s k : ℕ} → MeasuringAt pins tree names end t s k → t ≤ n → n ≤ t
      → MeasuringAt pins tree names end n s k
  all_at m l u = record { given = λ operand. measured_all (m.given operand) l u }

  -- limit 8
  module _ {n : ℕ} (e : n ≡ min 65 (number_of_alternatives (vector_at tree names end))) where
    pub over_number_at : 64 < n → MeasuredAt pins tree names end None
    over_number_at l =
        record { given = λ operand. over_number _ (number_placed operand pins end (vector_at tree names end) e) l }

    module _ {s k : ℕ} (m : MeasuringAt pins tree names end n s k) (l : n ≤ 64) where
      pub over_steps_at : 16 < s → MeasuredAt pins tree names end None
      over_steps_at h =
          record {
            given = λ operand.
                over_steps _ (m.given operand) (number_placed operand pins end (vector_at tree names end) e) l h;
          }

      pub over_tests_at : s ≤ 16 → 64 < k → MeasuredAt pins tree names end None
      over_tests_at h j =
          record {
            given = λ operand.
                over_tests _ (m.given operand) (number_placed operand pins end (vector_at tree names end) e) l h j;
          }

      pub within_at : s ≤ 16 → k ≤ 64
          → MeasuredAt pins tree names end (Some (record { alternatives = n; steps = s; tests = k }))
      within_at h j =
          record {
            given = λ operand.
                within _ (m.given operand) (number_placed operand pins end (vector_at tree names end) e) l h j;
          }

-- a tree with the pins that are found is what it is read as
module _ (ρ : Rules) {tree : List ℕ} {names end : ℕ} (h : Tree tree names end) {pins : List ℕ}
    (e : pins ≡ pins_of ρ tree names end) where
  pub tree_pinned : PinnedTree pins tree names end
  tree_pinned = record { ends = h.ends; small = h.few; long = ap length e ∙ (found_pins ρ h).long }

  pub measured_meant : {r : Measured} → MeasuredAt pins tree names end r
      → r ≡ measured (meant ρ (vector_at tree names end))
  measured_meant m = (rw e at m).given (boolean_at tree names) ∙ ap measured (found_means ρ h)
