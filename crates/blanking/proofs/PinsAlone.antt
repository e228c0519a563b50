-- Document 02, [11]: "an answer and its number of tries depend on nothing but the states of the expression's named pins
-- in the last K+1 rows, fewer near the start, and the row number up to K". For any rules.
--   fewer_pins                   traces that agree on some pins agree on fewer
--   pins_answer, pins_tries      a vector expression
--   lists_answer, lists_tries    alternatives, for the pins that their tests name
use Prim.Native.Nat.{ℕ, ◌-◌, ◌<◌}
use mathlib.Core.Path.{◌≡◌, sym, ◌∙◌}
use mathlib.Core.Bool.{Bool, true}
use mathlib.Core.List.{List}
use Rattle.basics.proofs.AllEntries.{All}
use Rattle.alf.specs.declared.Rules.{Rules}
use Rattle.alf.specs.Expressions.{Vector}
use Rattle.alf.specs.Values.{row_of, state_at}
use Rattle.alf.specs.Windows.{row_answer}
use Rattle.alf.specs.Alternatives.{Alternative, alternatives, steps_of, answer_of, tries}
use Rattle.alf.proofs.RowsAreAlternatives.{same_answer}
use Rattle.alf.proofs.Conditions.{Asks, alternatives_ask}
use Rattle.alf.proofs.Nearness.{Near, answers_near, tries_near}
use Rattle.alf.proofs.TraceNearness.{steps_within, steps_pos}
use Rattle.alternatives.specs.InMemory.{longest_of}
use Rattle.alternatives.proofs.Longest.{longest_within}
use Rattle.named_pins.specs.Pins.{names_in, names_of}
use Rattle.blanking.specs.Pins.{SamePins}
use Rattle.blanking.proofs.Named.{state_local, Within, asked_within, lists_within}

-- traces that agree on some pins agree on fewer
pub fewer_pins : {pins few : ℕ → Bool} {K k : ℕ} {states states' : List ℕ} {i j : ℕ}
    → ((n : ℕ) → few n ≡ true → pins n ≡ true) → SamePins pins K k states states' i j
    → SamePins few K k states states' i j
fewer_pins inside s = record { number = s.number; same = λ d n h l e. s.same d n h l (inside n e) }

module _ (ρ : Rules) (k : ℕ) (states states' : List ℕ) (i j : ℕ) where
  module _ (p : Vector) (s : SamePins (names_in p) (steps_of p) k states states' i j) where
    near : Near (Within (names_in p)) (state_at ρ k states) (state_at ρ k states') (steps_of p) i j
    near =
        record {
          room = s.number;
          agree = λ d h l c w.
              state_local ρ (row_of k states (i - d)) (row_of k states' (j - d)) c (λ n e. s.same d n h l (w n e));
        }

    asks : All (Asks (Within (names_in p))) (alternatives p)
    asks = alternatives_ask (Within (names_in p)) p (asked_within (names_in p) p (λ n e. e))

    pub pins_answer : row_answer (state_at ρ k states) p i ≡ row_answer (state_at ρ k states') p j
    pins_answer =
        same_answer (state_at ρ k states) p i
        ∙ answers_near _ _ _ (steps_of p) i j (alternatives p) (steps_pos p) near asks (steps_within p)
        ∙ sym (same_answer (state_at ρ k states') p j)

    pub pins_tries : tries (state_at ρ k states) (alternatives p) i ≡ tries (state_at ρ k states') (alternatives p) j
    pins_tries = tries_near _ _ _ (steps_of p) i j (alternatives p) (steps_pos p) near asks (steps_within p)

  module _ (xs : List Alternative) (some : 0 < longest_of xs)
      (s : SamePins (names_of xs) (longest_of xs) k states states' i j) where
    lists_near : Near (Within (names_of xs)) (state_at ρ k states) (state_at ρ k states') (longest_of xs) i j
    lists_near =
        record {
          room = s.number;
          agree = λ d h l c w.
              state_local ρ (row_of k states (i - d)) (row_of k states' (j - d)) c (λ n e. s.same d n h l (w n e));
        }

    pub lists_answer : answer_of (state_at ρ k states) xs i ≡ answer_of (state_at ρ k states') xs j
    lists_answer =
        answers_near _ _ _ (longest_of xs) i j xs some lists_near (lists_within (names_of xs) xs (λ n e. e))
        (longest_within xs)

    pub lists_tries : tries (state_at ρ k states) xs i ≡ tries (state_at ρ k states') xs j
    lists_tries =
        tries_near _ _ _ (longest_of xs) i j xs some lists_near (lists_within (names_of xs) xs (λ n e. e))
        (longest_within xs)
