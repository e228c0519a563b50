-- What a push for alternatives handed in comes to, case by case.
--   queue_many, queue_lists, queue_kept    whether a queue may be handed in with the alternatives
--   push_asked, push_refused, push_told
use Rattle.std.specs.Prelude.{Err, Ok}
use mathlib.Core.Path.{◌≡◌, refl, ◌∙◌}
use mathlib.Core.Bool.{Bool, false}
use mathlib.Core.List.{List}
use Prim.Native.Nat.{ℕ, ◌<◌}
use native.Mathlib.Omega.{arith}
use lib.ListN.{length}
use Rattle.basics.specs.declared.Refusal.{Refusal}
use Rattle.alf.specs.declared.Rules.{Rules}
use Rattle.basics.specs.Words.{greatest_of}
use Rattle.basics.specs.Deciding.{Decides}
use Rattle.basics.proofs.Deciding.{same_decided}
use Rattle.alternatives.specs.InMemory.{alternatives_of_lem, longest_of}
use Rattle.alternatives.proofs.Longest.{longest_is}
use Rattle.beginnings.specs.declared.times.Dated.{Dated}
use Rattle.queue.specs.Queues.{PushAsked}
use Rattle.timed_queue.specs.declared.queues.Queue.{Queue}
use Rattle.timed_queue.specs.TimedQueues.{Pushes}
use Rattle.states.specs.FirstBadCode.{Codes}
use Rattle.judging.specs.Orders.{Verdict}
use Rattle.judging.specs.Orders.{Judged}
use Rattle.judging.proofs.Verdicts.{judged_as, judged_good, judged_not}
use Rattle.matching_calls.specs.Matching.{Matching}
use Rattle.queue_calls.specs.Pushing.{RowFits, Keeps, Early, JudgesPush}
use Rattle.listed_acceptance.specs.Lists.{AcceptedAlternatives}
use Rattle.listed_acceptance.proofs.Acceptance.{accepted_shape, accepted_short}
use Rattle.listed_calls.specs.Listed as listed
use Rattle.listed_calls.specs.Listed.{ListedPush, Handed, Takes, DecidesQueue}

-- the queue
module _ (names : ℕ) (tree steps tests edges operands : List ℕ) (q : Queue) where
  pub queue_many : 32 < names → DecidesQueue names tree steps tests edges operands q false
  queue_many h = record { is = λ l. absurd (omega (arith, h, l)) }

  pub queue_lists : (AcceptedAlternatives names tree steps tests edges operands → ⊥)
      → DecidesQueue names tree steps tests edges operands q false
  unfolding Decides
  queue_lists n = record { is = λ l s. n s.accepted }

  module _ (a : AcceptedAlternatives names tree steps tests edges operands) where
    pub longest_here : {k : ℕ} → k ≡ greatest_of (λ n. n) steps
        → k ≡ longest_of (alternatives_of_lem tree names steps tests edges operands)
    longest_here e = e ∙ longest_is (accepted_shape _ _ _ _ _ _ a)

    pub queue_kept : {k : ℕ} (r : Bool) → k ≡ greatest_of (λ n. n) steps → Decides r (Keeps names k q)
        → DecidesQueue names tree steps tests edges operands q r
    queue_kept {k} r e d =
        record {
          is = λ l.
              same_decided (Keeps names k q) (Handed names tree steps tests edges operands q) r
              (λ s. record { accepted = a; kept = rw (longest_here e) at s })
              (λ s. rw (longest_here e) s.kept) d;
        }

module _ {names : ℕ} {tree steps tests edges operands : List ℕ} {q : Queue} {row : List ℕ} {fits good : Bool}
    {v : Verdict} (f : Decides fits (RowFits names (length row)))
    (g : DecidesQueue names tree steps tests edges operands q good) {time : ℕ}
    (j : JudgesPush fits good q time row v) where
  as_push : Judged (listed.push_order names tree steps tests edges operands q time row)
      (RowFits names (length row) × Handed names tree steps tests edges operands q
      × (Codes row × (Early q time → ⊥))) v
  as_push = judged_as fits good _ _ f (λ x. g.is x.name_count_lem.1) _ j.is

  pub push_asked : v ≡ (Ok tt) → PushAsked tree names steps tests edges operands q.rows row
  push_asked e =
      let (l, h, (s, t)) = (judged_good as_push e).1 in
      let shape = accepted_shape _ _ _ _ _ _ h.accepted in
      let k = longest_is shape in
      let few = accepted_short _ _ _ _ _ _ h.accepted in
      record {
        shape = shape;
        room =
            record {
              some = l.name_count_lem.0;
              most = l.name_count_lem.1;
              few = omega (arith, k, few);
              kept = omega (arith, k, h.kept.kept.few);
              codes = h.kept.kept.codes;
            };
        full = l.full;
        codes = s;
      }

  pub push_refused : {ρ : Rules} {r : Refusal} → v ≡ Err r
      → ListedPush ρ names tree steps tests edges operands q time row (Err r) q
  unfolding Takes
  push_refused e = record { comes = (judged_not as_push e, refl) }

  pub push_told : {ρ : Rules} {m : Dated} {p q' : Queue} {tell : Matching} → v ≡ (Ok tt)
      → Pushes ρ names (alternatives_of_lem tree names steps tests edges operands) q time row m.answer m.tries
      m.began p → tell ≡ Ok m → q' ≡ p
      → ListedPush ρ names tree steps tests edges operands q time row tell q'
  unfolding Takes
  push_told e p d f = rw (d, f) (record { comes = ((judged_good as_push e).0, p) })
