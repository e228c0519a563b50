-- Where the lists stand for the alternatives of a vector expression, the matcher answers what the document defines for
-- that expression: the answer on windows, and the totals.
--   answers_same         the alternatives' answer at a row is that on windows
--   matches_windows      a row's answer is the greatest over the windows that end there
--   totals_windows       so are the totals
--   totals_together      yes, no and unknown together are n-1
use mathlib.Core.Path.{◌≡◌, ap, sym, ◌∙◌, fun_ext}
use mathlib.Core.List.{List}
use Prim.Native.Nat.{ℕ, ◌+◌, ◌-◌, ◌<◌}
use native.Mathlib.Omega.{arith}
use lib.Dec.{eqb}
use Rattle.alf.specs.declared.Answer.{Answer}
use Rattle.basics.specs.Words.{count}
use Rattle.alf.specs.Expressions.{Boolean, Vector}
use Rattle.alf.specs.Windows.{row_answer}
use Rattle.alf.specs.Answers.{number_of}
use Rattle.alf.specs.Alternatives.{Alternative, alternatives, answer_of}
use Rattle.alf.specs.Traces.{total}
use Rattle.alf.specs.Traces as traces
use Rattle.alf.proofs.RowsAreAlternatives.{same_answer}
use Rattle.alf.proofs.Totals.{totals_sum}
use Rattle.matcher.specs.Answers.{Matches}
use Rattle.matcher.specs.Tables.{total_of, TotalsOf}

module _ (st : Boolean → ℕ → ℕ) {xs : List Alternative} (p : Vector) (same : xs ≡ alternatives p) where
  pub answers_same : (i : ℕ) → answer_of st xs i ≡ row_answer st p i
  answers_same i = rw same (sym (same_answer st p i))

  pub matches_windows : {row tried : ℕ} {a : Answer} → Matches st xs row a tried → number_of a ≡ row_answer st p row
  matches_windows {row} m = m.is ∙ answers_same row

  total_same : (n a : ℕ) → total_of st xs n a ≡ total st p n a
  unfolding total_of total
  total_same n a = ap (count n) (fun_ext (λ i. ap (λ (b : ℕ). eqb b a) (answers_same i)))

  module _ {n y f u : ℕ} (t : TotalsOf st xs n y f u) where
    pub totals_windows : traces.Totals st p n y f u
    totals_windows =
        record {
          yeses = t.yeses ∙ total_same n _;
          noes = t.noes ∙ total_same n _;
          unknowns = t.unknowns ∙ total_same n _;
        }

    pub totals_together : 0 < n → y + f + u ≡ n - 1
    totals_together h =
        let w = totals_windows in
        omega (arith, w.yeses, w.noes, w.unknowns, totals_sum st p n h)
