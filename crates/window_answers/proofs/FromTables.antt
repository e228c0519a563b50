-- What a filled table says of the whole expression: its answer on the window of all rows, and at the last row.
--   pattern_fillable                 what is asked before it is filled
--   filled_answer, filled_best       the answer on a window, and at a row
use Prim.Native.Nat.{ℕ, zero, suc, ◌+◌, ◌-◌, ◌*◌, ◌<◌, ◌≤◌, min, max}
use native.Mathlib.Omega.{arith}
use native.Mathlib.Nat.{add-zero, add-suc}
use mathlib.Core.Path.{◌≡◌, ◌∙◌}
use mathlib.Core.Bool.{true}
use mathlib.Core.List.{List}
use lib.ListN.{length}
use Rattle.basics.specs.Words.{greatest}
use Rattle.alf.specs.declared.Rules.{Rules}
use Rattle.alf.specs.Values.{state_at}
use Rattle.trees.specs.Parts.{boolean_at, vector_at}
use Rattle.steady_pins.specs.Pinned.{by_places, Pins}
use Rattle.trees.proofs.Starts.{of_vector}
use Rattle.basics.proofs.Extremes.{greatest_same, greatest_zero}
use Rattle.alf.proofs.RowsAreAlternatives.{best_short}
use Rattle.evaluator.specs.Rows.{Within}
use Rattle.window_answers.specs.Lengths.{longest}
use Rattle.window_answers.specs.Spans.{Pattern, pinned_on, pinned_best}
use Rattle.answer_table.specs.Tables.{stored}
use Rattle.window_answers.specs.Filling.{Fillable, Filled}
use Rattle.window_answers.proofs.PinnedLengths.{placed_too_long}
use Rattle.window_answers.proofs.Tops.{on_vector}

-- the greatest of the first m + n is that of the first m or that of the n behind them
greatest_both : (m n : ℕ) (f : ℕ → ℕ) → greatest (m + n) f ≡ max (greatest m f) (greatest n (λ i. f (m + i)))
unfolding greatest
greatest_both m zero f = rw add-zero (omega arith)
greatest_both m (suc n) f = let e = greatest_both m n f in rw add-suc (omega arith)

module _ {t pins : List ℕ} {names end : ℕ} (p : Pattern t names end) {states : List ℕ} where
  pub pattern_fillable : {first size last : ℕ} {table : List ℕ} → Pins t names pins
      → size ≤ longest (vector_at t names end) → first + size ≡ last → Within states names last
      → length table ≡ 65536
      → Fillable true t pins end states names first size table
  pattern_fillable i l e w h =
      record {
        ends = of_vector p.ends;
        sort = p.ends.whole;
        few = p.few;
        pinned = i;
        rows = record { most = omega (arith, p.short); last = rw e w };
        long = h;
      }

  module _ {ρ : Rules} {first size : ℕ} {before after : List ℕ}
      (f : Filled ρ t pins end states names first size before after) where
    stored_answer : (a last : ℕ) → a < size → first + size ≡ last
        → stored after ((end - 1) * 256) a size ≡ pinned_on ρ t pins names states end (first + a) last
    stored_answer a last l e =
        rw (on_vector t pins names states end ρ p.ends.whole, e) at (f.answers.is a size l (omega arith))

    pub filled_answer : {last r : ℕ} → 0 < size → first + size ≡ last → r ≡ stored after ((end - 1) * 256) 0 size
        → r ≡ pinned_on ρ t pins names states end first last
    filled_answer l e h = h ∙ rw add-zero at (stored_answer 0 _ l e)

    -- the windows that start before are too long
    earlier_none : (last : ℕ) → first + size ≡ last → size ≡ min last (longest (vector_at t names end))
        → greatest first (λ a. pinned_on ρ t pins names states end a last) ≡ 0
    earlier_none last e n =
        greatest_zero first _ (λ i l. placed_too_long (state_at ρ names states) (boolean_at t names) pins end
        (vector_at t names end) i last (omega arith))

    pub filled_best : {last r : ℕ} → first + size ≡ last → size ≡ min last (longest (vector_at t names end))
        → r ≡ greatest size (λ a. stored after ((end - 1) * 256) a size)
        → r ≡ pinned_best ρ t pins names states end last
    filled_best {last} e n h =
        let on : ℕ → ℕ = λ a. pinned_on ρ t pins names states end a last in
        let z = earlier_none last e n in
        let b = rw e at (greatest_both first size on) in
        let s = greatest_same size _ (λ a. on (first + a)) (λ i l. stored_answer i last l e) in
        let p = by_places (boolean_at t names) pins end (vector_at t names end) in
        let w = best_short (state_at ρ names states) p last in
        omega arith
