-- Totals: yes, no and unknown together are n-1.
--   three, one_of_three   an answer at an event is one of the three
--   totals_sum    of a trace of n rows, n at least 1
use Rattle.std.specs.Prelude.{if◌then◌else◌}
use mathlib.Core.Path.{◌≡◌, refl}
use Prim.Native.Nat.{ℕ, zero, suc, ◌+◌, ◌-◌, ◌<◌}
use native.Mathlib.Omega.{arith}
use lib.Dec.{eqb}
use Rattle.basics.specs.Words.{count}
use Rattle.alf.specs.Expressions.{Boolean, Vector}
use Rattle.alf.specs.Windows.{best, numbered, row_answer}
use Rattle.alf.specs.Traces.{total}

-- how many of the three an answer is, by its number
abbrev pub three : ℕ → ℕ
three a = (if eqb a 1 then 1 else 0) + (if eqb a 0 then 1 else 0) + (if eqb a 2 then 1 else 0)

-- an answer at an event is one of the three
pub one_of_three : (r : ℕ) → three (numbered r) ≡ 1
unfolding numbered
one_of_three zero = refl
one_of_three (suc zero) = refl
one_of_three (suc (suc r)) = refl

module _ (st : Boolean → ℕ → ℕ) (p : Vector) where
  sum_suc : (n : ℕ) → total st p (suc n) 1 + total st p (suc n) 0 + total st p (suc n) 2 ≡ n
  unfolding total count row_answer
  sum_suc zero = refl
  sum_suc (suc n) = let e = sum_suc n in let o = one_of_three (best st p (suc n)) in omega arith

  pub totals_sum : (n : ℕ) → 0 < n → total st p n 1 + total st p n 0 + total st p n 2 ≡ n - 1
  totals_sum zero h = absurd (omega arith)
  totals_sum (suc n) h = let e = sum_suc n in omega arith
