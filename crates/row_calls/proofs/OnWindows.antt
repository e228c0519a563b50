-- The call for one window, case by case.
--   window_asked, window_refused, window_told    what `window_answer` comes to
use Rattle.std.specs.Prelude.{Err, Ok}
use Prim.Native.Nat.{ℕ, max}
use native.Mathlib.Omega.{arith}
use mathlib.Core.Path.{◌≡◌, subst}
use mathlib.Core.List.{List}
use Rattle.alf.specs.declared.Rules.{Rules}
use Rattle.alf.specs.declared.Answer.{Answer}
use Rattle.basics.specs.declared.Refusal.{Refusal}
use Rattle.alf.specs.declared.Sort.TheVariants.{Vector}
use Rattle.alf.specs.Windows.{numbered}
use Rattle.alf.specs.Answers.{number_of}
use Rattle.evaluator.proofs.Traces.{earlier_row}
use Rattle.judging.specs.Orders.{Verdict}
use Rattle.judging.specs.Orders.{ChecksRow}
use Rattle.row_calls.specs.Written.{Tells}
use Rattle.row_calls.specs.Windows.{answer_over, WindowAnswer, TreeWindow}
use Rattle.judging.proofs.Verdicts.{judged_good, judged_not}
use Rattle.row_calls.proofs.AsWritten.{row_there, pattern_there}

module _ {ρ : Rules} {names n : ℕ} {tree states : List ℕ} (a b : ℕ) {row : ℕ} {v : Verdict} (last : row ≡ max a b)
    (checked : ChecksRow ρ names n tree Vector states row v) where
  both : ChecksRow ρ names n tree Vector states (max a b) v
  both = subst (λ (k : ℕ). ChecksRow ρ names n tree Vector states k v) last checked

  pub window_asked : v ≡ (Ok tt) → TreeWindow names tree states b
  window_asked e = record { ends = pattern_there both e; there = earlier_row b (omega arith) (row_there both e) }

  pub window_refused : {r : Refusal} → v ≡ Err r
      → WindowAnswer ρ names n tree states a b (Err r)
  unfolding Tells
  window_refused e = record { comes = judged_not both.is e }

  pub window_told : {w : Answer} → v ≡ (Ok tt) → number_of w ≡ numbered (answer_over ρ names tree states a b)
      → WindowAnswer ρ names n tree states a b (Ok w)
  unfolding Tells
  window_told e s = record { comes = ((judged_good both.is e).0, s) }
