-- Demand 3 holds. Main name: demand_3.
use Rattle.std.specs.Prelude.{Err, Ok}
use Prim.Native.Nat.{ℕ, ◌<◌, ◌≤◌}
use native.Mathlib.Omega.{arith}
use mathlib.Core.Path.{◌≡◌, sym, ap, ◌∙◌}
use mathlib.Core.Logic.{◌⊎◌}
use mathlib.Core.List.{List}
use lib.ListN.{length, get_or}
use Rattle.basics.specs.Refusing.{Outcome}
use Rattle.alf.specs.Expressions.{Vector}
use Rattle.alf.specs.Values.{state_at}
use Rattle.alf.specs.Windows.{row_answer}
use Rattle.alf.specs.Alternatives.{steps_of}
use Rattle.alf.specs.Traces.{corrected}
use Rattle.alf.specs.Refusals.{Passed, Comes}
use Rattle.alf.proofs.Outcomes.{refused_passed}
use Rattle.states.specs.FirstBadCode.{Codes}
use Rattle.basics.specs.Memory.{after}
use Rattle.matching_calls.specs.Matching.{expression}
use Rattle.update_calls.specs.Correcting.{correction_order}
use Rattle.call_laws.proofs.Passing.{codes_never}
use Rattle.call_laws.proofs.Theorems.{correction_reaches, correction_stays, correction_keeps_right}
use Rattle.demands.specs.Questions.{Question, names_of, tree_of, answer_on, answer_at, K}
use Rattle.demands.specs.Demand3.{Corrects, last, Demand3}
use Rattle.demands.proofs.Asked.{lists_fit_lem, codes_good, tree_accepted, tree_is}

module _ {file text : List ℕ} (q : Question file text) where
  abbrev k : ℕ
  k = names_of q

  module _ (answers : List ℕ) (r : ℕ) (new : List ℕ) (room : length answers ≡ q.rows) (full : length new ≡ k)
      (codes : Codes new) (there : r < q.rows) where
    passed : Passed (correction_order q.rules k q.rows (tree_of q) q.states answers r new)
    unfolding Passed
    passed = (
      λ p x. x.given (record { room = room; full = full; rows = lists_fit_lem q }),
      (
        λ p x. x.given (tree_accepted q),
        (
          codes_never q.states (codes_good q),
          (codes_never new codes, (λ p x. omega (arith, there, x.given), tt)),
        ),
      ),
    )

    correction_done : {states' answers' : List ℕ} (o : Outcome)
        → Corrects q answers r new states' answers' o → o ≡ Ok 1
    unfolding Comes
    correction_done (Ok m) w = ap Ok w.comes.1
    correction_done (Err e) w = absurd (refused_passed _ _ _ passed w.comes.by)

  steps_is : steps_of (expression q.rules (tree_of q) k) ≡ K q
  steps_is = ap steps_of (tree_is q)

  answer_is : (states : List ℕ) (i : ℕ)
      → row_answer (state_at q.rules k states) (expression q.rules (tree_of q) k) i ≡ answer_on q states i
  answer_is states i = ap (λ (p : Vector). row_answer (state_at q.rules k states) p i) (tree_is q)

  module _ {answers : List ℕ} {r : ℕ} {new states' answers' : List ℕ}
      (w : Corrects q answers r new states' answers' (Ok 1)) where
    correction_stored : states' ≡ corrected k q.states r new
    unfolding after
    correction_stored = w.states_memory

    rewritten_right : (i : ℕ) → r ≤ i → i ≤ last q r
        → get_or answers' i 0 ≡ answer_on q states' i
    rewritten_right i a b =
        correction_reaches (tree_accepted q) w i a (rw steps_is b) ∙ answer_is states' i

    others_stay : (i : ℕ) → (i < r) ⊎ (last q r < i) → get_or answers' i 0 ≡ get_or answers i 0
    others_stay i h = correction_stays (tree_accepted q) w i (rw steps_is h)

    right_again : ((i : ℕ) → i < q.rows → get_or answers i 0 ≡ answer_at q i)
        → (i : ℕ) → i < q.rows → get_or answers' i 0 ≡ answer_on q states' i
    right_again right i l =
        correction_keeps_right (tree_accepted q) w (λ j h. right j h ∙ sym (answer_is q.states j)) i l
        ∙ answer_is states' i

  pub demand_3 : Demand3 q
  demand_3 =
      record {
        done = λ answers r new states' answers' o a b c l w. correction_done answers r new a b c l o w;
        stored = λ answers r new states' answers' w. correction_stored w;
        rewritten_right = λ answers r new states' answers' w i a b. rewritten_right w i a b;
        others_stay = λ answers r new states' answers' w i h. others_stay w i h;
        right_again = λ answers r new states' answers' w right i l. right_again w right i l;
      }
