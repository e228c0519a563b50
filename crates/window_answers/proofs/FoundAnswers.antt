-- With the pins that are found an expression is the one that the rules mean.
--   pattern_tree, pattern_pins     what is asked before they are found, and with them
--   found_answer, found_best       its answer on a window, and at a row
use Prim.Native.Nat.{ℕ}
use mathlib.Core.Path.{◌≡◌}
use mathlib.Core.List.{List}
use Rattle.alf.specs.declared.Rules.{Rules}
use Rattle.steady_pins.specs.Pinned.{Pins}
use Rattle.steady_pins.specs.Finding.{Tree, pins_of}
use Rattle.steady_pins.proofs.Found.{found_means, found_pins}
use Rattle.window_answers.specs.Spans.{Pattern, pinned_on, pinned_best, answer_on, best_at_lem}

module _ {t : List ℕ} {names end : ℕ} (p : Pattern t names end) where
  pub pattern_tree : Tree t names end
  pattern_tree = record { ends = p.ends; few = p.few }

  module _ (ρ : Rules) {pins : List ℕ} (e : pins ≡ pins_of ρ t names end) where
    pub pattern_pins : Pins t names pins
    pattern_pins = rw e (found_pins ρ pattern_tree)

    pub found_answer : (states : List ℕ) (a b : ℕ) {r : ℕ} → r ≡ pinned_on ρ t pins names states end a b
        → r ≡ answer_on ρ t names states end a b
    found_answer states a b h = rw (e, found_means ρ pattern_tree) at h

    pub found_best : (states : List ℕ) (row : ℕ) {r : ℕ} → r ≡ pinned_best ρ t pins names states end row
        → r ≡ best_at_lem ρ t names states end row
    found_best states row h = rw (e, found_means ρ pattern_tree) at h
