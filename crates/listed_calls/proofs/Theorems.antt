-- What the calls over alternatives handed in promise together.
--   listed_totals_together    yes, no and unknown together are n-1, as alf/proofs/Totals says of an expression
use Rattle.std.specs.Prelude.{Ok}
use mathlib.Core.Path.{◌≡◌, refl}
use mathlib.Core.List.{List}
use Prim.Native.Nat.{ℕ, zero, suc, ◌+◌, ◌-◌}
use native.Mathlib.Omega.{arith}
use Rattle.basics.specs.Words.{count}
use Rattle.alf.specs.declared.Rules.{Rules}
use Rattle.alf.specs.Expressions.{Boolean}
use Rattle.alf.specs.Values.{state_at}
use Rattle.alf.specs.Alternatives.{Alternative, answer_of, best_of}
use Rattle.alf.proofs.Totals.{one_of_three}
use Rattle.matcher.specs.declared.tables.Total.{Total}
use Rattle.matcher.specs.Tables.{total_of}
use Rattle.matching_calls.specs.Matching.{Counts}
use Rattle.listed_calls.specs.Listed.{ListedTotals, alternatives_in}

module _ (st : Boolean → ℕ → ℕ) (xs : List Alternative) where
  sum_events : (n : ℕ) → total_of st xs (suc n) 1 + total_of st xs (suc n) 0 + total_of st xs (suc n) 2 ≡ n
  unfolding total_of count answer_of
  sum_events zero = refl
  sum_events (suc n) = omega (arith, sum_events n, one_of_three (best_of st xs (suc n)))

  sum_rows : (n : ℕ) → total_of st xs n 1 + total_of st xs n 0 + total_of st xs n 2 ≡ n - 1
  unfolding total_of count
  sum_rows zero = omega arith
  sum_rows (suc n) = omega (arith, sum_events n)

pub listed_totals_together : {ρ : Rules} {names n : ℕ} {tree steps tests edges operands states : List ℕ} {t : Total}
    → ListedTotals ρ names n tree steps tests edges operands states (Ok t)
    → t.yes + t.no + t.unknown ≡ n - 1
unfolding Counts
listed_totals_together {ρ} {names} {n} {tree} {steps} {tests} {edges} {operands} {states} w =
    let t = w.comes.1 in
    let xs = alternatives_in names n tree steps tests edges operands states in
    omega (arith, t.yeses, t.noes, t.unknowns, sum_rows (state_at ρ names states) xs n)
