-- Alternatives that a call by lists takes: one of them has a step. Refusal 10 is given where there are none, or where
-- one is without a step. So it is known of every call that is done.
--   accepted_step     of accepted alternatives
--   passed_step       where a call's order is passed
use Prim.Native.Nat.{ℕ, ◌<◌}
use native.Mathlib.Omega.{arith}
use mathlib.Core.Path.{refl}
use mathlib.Core.List.{List, [], ◌∷◌}
use lib.ListN.{length, get_or}
use Rattle.basics.specs.Words.{greatest_of}
use Rattle.basics.proofs.Stable.{le_stable}
use Rattle.alf.specs.Refusals.{Order, Passed}
use Rattle.alternatives.specs.InMemory.{alternatives_of_lem, longest_of}
use Rattle.alternatives.proofs.Longest.{longest_is}
use Rattle.judging.specs.Orders.{order}
use Rattle.listed_acceptance.specs.Lists.{AcceptedAlternatives}
use Rattle.listed_acceptance.proofs.Acceptance.{accepted_shape}

-- the greatest of numbers of which the first is above 0
first_some : (l : List ℕ) → 0 < length l → ((k : ℕ) → k < length l → 0 < get_or l k 0) → 0 < greatest_of (λ n. n) l
unfolding greatest_of
first_some [] h g = absurd (omega arith)
first_some (n ∷ l) h g = omega (arith, g 0 (omega arith))

module _ {names : ℕ} {tree steps tests edges operands : List ℕ} where
  pub accepted_step : AcceptedAlternatives names tree steps tests edges operands
      → 0 < longest_of (alternatives_of_lem tree names steps tests edges operands)
  accepted_step a =
      let shape = accepted_shape names tree steps tests edges operands a in
      rw (← longest_is shape) (first_some steps a.some a.stepped)

-- what is good is accepted alternatives, and perhaps more
module _ (names : ℕ) (tree steps tests edges operands : List ℕ) (lists : Type 0) {good : Type 0}
    (rest : Order) where
  pub passed_step : (good → AcceptedAlternatives names tree steps tests edges operands)
      → Passed (order lists good rest) → 0 < longest_of (alternatives_of_lem tree names steps tests edges operands)
  unfolding Passed
  passed_step f p = le_stable 1 _ (λ d. p.1.0 0 (record { given = λ g. d (accepted_step (f g)); there = refl }))
