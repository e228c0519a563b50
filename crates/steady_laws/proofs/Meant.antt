-- Document 02, [2]: what an expression is read as under some rules, filled or as written.
--   meant_cases                  what holds of both holds of what is meant
--   meant_off, meant_on          with steady pins off it is the expression written, and with them on the filled one
--   meant_twice                  what is meant, read again, is the same
--   meant_lone                   an expression with no run of two or more steps is read as it is written
--   meant_over                   over n names it stays so
--   meant_fills                  its alternatives are those written, with some `?-` added to their steps
--   meant_number, meant_steps, meant_contradictory     the same under any rules
--   meant_limit                  an expression over a limit of 8 is over one as it is read
--   meant_answer, meant_best     no answer is above the one of the expression as written
--   meant_tries_bound            no more alternatives are tried than it has as written
use Rattle.std.specs.Prelude.{if◌then◌else◌}
use mathlib.Core.Path.{◌≡◌, refl}
use mathlib.Core.Bool.{Bool, true, false}
use mathlib.Core.List.{map}
use Prim.Native.Nat.{ℕ, ◌≤◌}
use native.Mathlib.Omega.{arith}
use Rattle.alf.specs.declared.Rules.{Rules}
use Rattle.alf.specs.Expressions.{Boolean, Vector, VectorOver}
use Rattle.alf.specs.Windows.{answer, best}
use Rattle.alf.specs.Alternatives.{alternatives, tries, contradictory, number_of_alternatives, steps_of, over_limit}
use Rattle.alf.specs.Steady.{filled, meant}
use Rattle.basics.proofs.Choices.{if_all}
use Rattle.steady_laws.specs.Lone.{lone}
use Rattle.steady_laws.proofs.SteadyPins.{FillsAll, fills_all_same, filled_fills}
use Rattle.steady_laws.proofs.SteadyLimits.{filled_number, filled_steps, filled_limit, filled_contradictory}
use Rattle.steady_laws.proofs.Twice.{filled_twice}
use Rattle.steady_laws.proofs.OverNames.{filled_over}
use Rattle.steady_laws.proofs.LoneSteps.{lone_filled}
use Rattle.steady_laws.proofs.SteadyAnswers.{filled_answer, filled_best, tries_bound}

pub meant_off : (ρ : Rules) (p : Vector) → ρ.steady_pins ≡ false → meant ρ p ≡ p
unfolding meant
meant_off ρ p e = rw e refl

pub meant_on : (ρ : Rules) (p : Vector) → ρ.steady_pins ≡ true → meant ρ p ≡ filled p
unfolding meant
meant_on ρ p e = rw e refl

pub meant_twice : (ρ : Rules) (p : Vector) → meant ρ (meant ρ p) ≡ meant ρ p
unfolding meant
meant_twice ρ p = go ρ.steady_pins
  where
    go : (q : Bool) → (if q then filled (if q then filled p else p) else (if q then filled p else p))
        ≡ (if q then filled p else p)
    go true = filled_twice p
    go false = refl

module _ (ρ : Rules) (p : Vector) where
  pub meant_cases : (P : Vector → Type 0) → P p → P (filled p) → P (meant ρ p)
  unfolding meant
  meant_cases P h k = if_all P ρ.steady_pins (λ e. k) (λ e. h)

  pub meant_lone : lone p ≡ true → meant ρ p ≡ p
  meant_lone h = meant_cases (λ q. q ≡ p) refl (lone_filled p h)

  pub meant_over : (n : ℕ) → VectorOver n p → VectorOver n (meant ρ p)
  meant_over n o = meant_cases (VectorOver n) o (filled_over n p o)

  pub meant_fills : FillsAll (alternatives p) (alternatives (meant ρ p))
  meant_fills = meant_cases (λ q. FillsAll (alternatives p) (alternatives q)) (fills_all_same _) (filled_fills p)

  pub meant_number : number_of_alternatives (meant ρ p) ≡ number_of_alternatives p
  meant_number = meant_cases (λ q. number_of_alternatives q ≡ number_of_alternatives p) refl (filled_number p)

  pub meant_steps : steps_of (meant ρ p) ≡ steps_of p
  meant_steps = meant_cases (λ q. steps_of q ≡ steps_of p) refl (filled_steps p)

  pub meant_limit : over_limit (alternatives p) ≡ true → over_limit (alternatives (meant ρ p)) ≡ true
  meant_limit h = meant_cases (λ q. over_limit (alternatives q) ≡ true) h (filled_limit p h)

  pub meant_contradictory : (names : ℕ)
      → map (contradictory names) (alternatives (meant ρ p)) ≡ map (contradictory names) (alternatives p)
  meant_contradictory names =
      meant_cases (λ q. map (contradictory names) (alternatives q) ≡ map (contradictory names) (alternatives p)) refl
      (filled_contradictory names p)

  module _ (st : Boolean → ℕ → ℕ) where
    pub meant_answer : (a b : ℕ) → answer st (meant ρ p) a b ≤ answer st p a b
    meant_answer a b = meant_cases (λ q. answer st q a b ≤ answer st p a b) (omega arith) (filled_answer st p a b)

    pub meant_best : (i : ℕ) → best st (meant ρ p) i ≤ best st p i
    meant_best i = meant_cases (λ q. best st q i ≤ best st p i) (omega arith) (filled_best st p i)

    pub meant_tries_bound : (i : ℕ) → tries st (alternatives (meant ρ p)) i ≤ number_of_alternatives p
    unfolding number_of_alternatives
    meant_tries_bound i =
        let b = tries_bound st (alternatives (meant ρ p)) i in
        let n = meant_number in
        omega arith
