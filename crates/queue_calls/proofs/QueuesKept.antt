-- What a queue keeps that is handed in, and whether a row's time is above the last.
--   held_fits, held_whole                 the rows kept stand in their array
--   keeps_not, keeps_decided              whether they may be handed in
--   times_whole, times_decided, kept_not, kept_decided    the same of their times, and of both
--   last_none, last_over                  the time of the last row kept
--   first_push, early_refused, above_good 13 of the new row
--   judges_push                           verdicts put together
use Rattle.std.specs.Prelude.{Err, Ok}
use mathlib.Core.Path.{◌≡◌, refl, sym}
use mathlib.Core.Bool.{Bool, true, false}
use mathlib.Core.Logic.{inl}
use mathlib.Core.List.{List}
use Prim.Native.Nat.{ℕ, ◌-◌, ◌*◌, ◌<◌, ◌≤◌}
use native.Mathlib.Omega.{arith}
use lib.Dec.{eqb}
use lib.ListN.{length, get_or, get_or-eq_default}
use lib.Seq.{length-take-le}
use borrow.Author.Tests.{eqb-true, eqb-false}
use Rattle.basics.specs.declared.Refusal.{Refusal}
use Rattle.basics.specs.Refusing.{refusal}
use Rattle.basics.specs.Deciding.{Decides}
use Rattle.basics.proofs.Deciding.{same_decided}
use Rattle.alf.specs.Refusals.{RefusedWith, Passed, Rising}
use Rattle.alf.proofs.Orders.{plainly}
use Rattle.states.specs.FirstBadCode.{FirstBad}
use Rattle.queue.specs.declared.queues.Queue as rows
use Rattle.queue.specs.Queues.{held_of}
use Rattle.queue.proofs.Keeping.{rows_fit, held_length}
use Rattle.timed_queue.specs.declared.queues.Queue.{Queue}
use Rattle.timed_queue.specs.TimedQueues.{held_times}
use Rattle.judging.specs.Orders.{Verdict}
use Rattle.judging.specs.Orders.{Judged, passes, refuses, JudgesTrace}
use Rattle.judging.specs.TimedOrders.{FirstEarly}
use Rattle.judging.proofs.Verdicts.{judged_stop, judged_go, judged_facts}
use Rattle.queue_calls.specs.Pushing.{Small, KeepsRows, Keeps, last_time, Early, late, JudgesPush}

-- what a queue of at most 16 rows keeps
module _ {names k : ℕ} (q : rows.Queue) (s : Small names k) (h : q.kept.0 ≤ k) where
  pub held_fits : q.kept.0 * names ≤ 512
  held_fits = rows_fit q.kept.0 (omega (arith, s.few)) s.most

  pub held_whole : length q.states ≡ 512 → length (held_of names q) ≡ q.kept.0 * names
  held_whole e = held_length q (omega (arith, s.few)) s.most e

module _ (names k : ℕ) (q : rows.Queue) where
  pub keeps_not : k < q.kept.0 → Decides false (KeepsRows names k q)
  unfolding Decides
  keeps_not h = λ s. omega (arith, h, s.few)

  module _ (h : q.kept.0 ≤ k) (l : length (held_of names q) ≡ q.kept.0 * names) where
    keeps_cases : {bad : ℕ} → FirstBad (held_of names q) bad → (t : Bool) → eqb bad (q.kept.0 * names) ≡ t
        → Decides t (KeepsRows names k q)
    unfolding Decides
    keeps_cases {bad} b true e =
        record { few = h; codes = λ i m. b.before i (omega (arith, eqb-true bad (q.kept.0 * names) e, l)) }
    keeps_cases {bad} b false e = λ s.
        let d : bad < length (held_of names q) = omega (arith, b.within, l, eqb-false bad (q.kept.0 * names) e) in
        omega (arith, b.there d, s.codes bad d)

    pub keeps_decided : {bad : ℕ} → FirstBad (held_of names q) bad
        → Decides (eqb bad (q.kept.0 * names)) (KeepsRows names k q)
    keeps_decided b = keeps_cases b _ refl

-- the times of at most 16 rows
module _ (q : Queue) (h : q.rows.kept.0 ≤ 16) (e : length q.times ≡ 16) where
  pub times_whole : length (held_times q) ≡ q.rows.kept.0
  times_whole = length-take-le q.rows.kept.0 q.times (omega arith)

  times_cases : {early : ℕ} → FirstEarly (held_times q) early → (t : Bool) → eqb early q.rows.kept.0 ≡ t
      → Decides t (Rising (held_times q))
  unfolding Decides
  times_cases {early} b true d = λ r k l.
      b.before r k (omega (arith, l, times_whole, eqb-true early q.rows.kept.0 d))
  times_cases {early} b false d = λ s.
      let m : early < length (held_times q) =
      omega (arith, b.within, times_whole, eqb-false early q.rows.kept.0 d) in
      let (k, u) = b.there m in
      omega (arith, u, s early k m)

  pub times_decided : {early : ℕ} → FirstEarly (held_times q) early
      → Decides (eqb early q.rows.kept.0) (Rising (held_times q))
  times_decided b = times_cases b _ refl

module _ {names k : ℕ} (q : Queue) where
  pub kept_not : (KeepsRows names k q.rows → ⊥) → Decides false (Keeps names k q)
  unfolding Decides
  kept_not n = λ s. n s.kept

  pub kept_decided : (r : Bool) → KeepsRows names k q.rows → Decides r (Rising (held_times q))
      → Decides r (Keeps names k q)
  kept_decided r a d =
      same_decided (Rising (held_times q)) (Keeps names k q) r (λ s. record { kept = a; rising = s }) (λ s. s.rising) d

-- the time of the last row kept
module _ (q : Queue) where
  pub last_none : q.rows.kept.0 ≡ 0 → get_or q.times 0 0 ≡ last_time q
  last_none e = let d : q.rows.kept.0 - 1 ≡ 0 = omega arith in rw d refl

  pub last_over : length q.times ≡ 16 → 16 < q.rows.kept.0 → 0 ≡ last_time q
  last_over e h = sym (get_or-eq_default q.times 0 {n = q.rows.kept.0 - 1} (omega arith))

-- 13
module _ (q : Queue) (time : ℕ) where
  pub first_push : q.rows.kept.0 ≡ 0 → Judged (late q time) (Early q time → ⊥) (Ok tt)
  unfolding Passed
  first_push e = passes (λ p a. omega (arith, a.given.0), tt) (λ a. omega (arith, a.0))

  pub early_refused : {r : Refusal} → (q.rows.kept.0 ≡ 0 → ⊥) → time ≤ last_time q → r ≡ refusal 13 0
      → Judged (late q time) (Early q time → ⊥) (Err r)
  unfolding RefusedWith
  early_refused n h e =
      rw e (refuses (plainly _ _ 0 (inl (refl, record { given = (omega (arith, n), h); there = refl }))))

  pub above_good : last_time q < time → Judged (late q time) (Early q time → ⊥) (Ok tt)
  unfolding Passed
  above_good h = passes (λ p a. omega (arith, a.given.1), tt) (λ a. omega (arith, a.1))

-- verdicts one after the other
module _ {fits good : Bool} {q : Queue} {time : ℕ} {row : List ℕ} {a : Verdict} (x : JudgesTrace fits good row a) where
  pub push_refused : {r : Refusal} → a ≡ Err r → JudgesPush fits good q time row (Err r)
  push_refused e =
      record {
        is = judged_facts (λ ((f, g, h), k). (f, g, (h, k)))
            (judged_stop (late q time) {G = Early q time → ⊥} x.is e);
      }

  pub push_13 : a ≡ (Ok tt) → {b : Verdict} → Judged (late q time) (Early q time → ⊥) b
      → JudgesPush fits good q time row b
  push_13 d y = record { is = judged_facts (λ ((f, g, h), k). (f, g, (h, k))) (judged_go x.is d y) }
