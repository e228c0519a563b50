-- What a vector expression in a tree answers on windows and at rows, and what is asked of it.
--   Pattern              a vector expression of at most 256 bytes, with windows of at most 16 events
--   pinned_on, pinned_best     its answer on a window and at a row, with given pins
--   answer_on, best_at_lem     its answer on a window and at a row, as the rules have it
use Rattle.std.specs.Prelude.{ℕ, ◌≤◌, List}
use Rattle.alf.specs.declared.Rules.{Rules}
use Rattle.alf.specs.Values.{state_at}
use Rattle.alf.specs.Windows.{Window, answer, best}
use Rattle.alf.specs.Steady.{meant}
use Rattle.trees.specs.Parts.{EndsVector, boolean_at, vector_at}
use Rattle.steady_pins.specs.Pinned.{by_places}
use Rattle.window_answers.specs.Lengths.{longest}

pub record Pattern (tree : List ℕ) (names end : ℕ) : Type 0 where
  pub ends : EndsVector tree names end
  pub few : end ≤ 256
  pub short : longest (vector_at tree names end) ≤ 16

-- the answer on each window, and at each row, of the vector expression that ends at `end`, with these pins
abbrev pub pinned_on : Rules → List ℕ → List ℕ → ℕ → List ℕ → ℕ → Window
pinned_on ρ tree pins names states end =
    answer (state_at ρ names states) (by_places (boolean_at tree names) pins end (vector_at tree names end))

abbrev pub pinned_best : Rules → List ℕ → List ℕ → ℕ → List ℕ → ℕ → ℕ → ℕ
pinned_best ρ tree pins names states end =
    best (state_at ρ names states) (by_places (boolean_at tree names) pins end (vector_at tree names end))

-- and as the rules have it: with the steady pins filled in, or as it is written
abbrev pub answer_on : Rules → List ℕ → ℕ → List ℕ → ℕ → Window
answer_on ρ tree names states end = answer (state_at ρ names states) (meant ρ (vector_at tree names end))

abbrev pub best_at_lem : Rules → List ℕ → ℕ → List ℕ → ℕ → ℕ → ℕ
best_at_lem ρ tree names states end = best (state_at ρ names states) (meant ρ (vector_at tree names end))
