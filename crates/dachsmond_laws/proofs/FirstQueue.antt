-- The queue of `dachsmond_empty_queue`: there is one; it keeps nothing; and a push may be handed it, so that the push
-- of a good row by an accepted tree, or by accepted alternatives in lists, is done.
--   empty_queue_unique                        there is one
--   empty_queue_holds, empty_queue_keeps      no states; it may be handed to any push
--   empty_queue_pushed, empty_queue_listed    the first push is done
use Prim.Native.Nat.{ℕ, ◌*◌}
use native.Mathlib.Nat.{zero-mul}
use native.Mathlib.Omega.{arith}
use mathlib.Core.Path.{◌≡◌, sym, ap, subst, ◌∙◌}
use mathlib.Core.List.{List, []}
use lib.ListN.{length, take}
use Rattle.alf.specs.declared.Rules.{Rules}
use Rattle.alf.specs.declared.Sort.TheVariants.{Vector}
use Rattle.alf.proofs.Outcomes.{refused_passed}
use Rattle.acceptance.specs.Accepted.{Accepted}
use Rattle.states.specs.FirstBadCode.{Codes}
use Rattle.queue.specs.Queues.{held_of}
use Rattle.queue_calls.specs.Pushing.{RowFits, Keeps, Early, Handed, push_order, Takes}
use Rattle.call_laws.proofs.Passing.{push_passed}
use Rattle.call_laws.proofs.Routes.{holding_first}
use Rattle.listed_acceptance.specs.Lists.{AcceptedAlternatives}
use Rattle.listed_calls.specs.Listed as listed
use Rattle.telling.specs.declared.Queue.{Queue}
use Rattle.telling.specs.declared.Pushed.{Pushed}
use Rattle.telling.specs.Handing.{Hands}
use Rattle.telling.specs.Matching.{queue_of_lem, Pushes, told_push}
use Rattle.telling.specs.Listed.{ListedPushes}
use Rattle.dachsmond_laws.specs.Reliable.{EmptyQueue}
use Rattle.dachsmond_laws.proofs.ReliableCalls.{push_reliable, listed_push_reliable}

pub empty_queue_unique : (p q : Queue) → EmptyQueue p → EmptyQueue q → p ≡ q
empty_queue_unique p q a b =
    λ i.
    record {
      kept = (a.0 ∙ sym b.0) i;
      states = (a.1 ∙ sym b.1) i;
      times = (a.2 ∙ sym b.2) i;
    }

module _ (q : Queue) (e : EmptyQueue q) where
  pub empty_queue_holds : (names : ℕ) → held_of names (queue_of_lem q).rows ≡ []
  unfolding queue_of_lem
  empty_queue_holds names =
      ap (λ (j : ℕ). take (j * names) q.states) e.0 ∙ ap (λ (j : ℕ). take j q.states) (zero-mul names)

  pub empty_queue_keeps : (names k : ℕ) → Keeps names k (queue_of_lem q)
  unfolding queue_of_lem
  empty_queue_keeps names k =
      let h = holding_first names k (queue_of_lem q) e.0 in
      record { kept = record { few = h.few; codes = h.codes }; rising = h.rising }

  -- no time comes too early for it
  never_early : (time : ℕ) → Early (queue_of_lem q) time → ⊥
  unfolding queue_of_lem
  never_early time a = omega (arith, a.0, e.0)

  pub empty_queue_pushed : {ρ : Rules} (names : ℕ) (tree : List ℕ) (time : ℕ) (row : List ℕ) (r : Pushed) → Accepted ρ
      names Vector tree
      → RowFits names (length row) → Codes row → Hands (Pushes ρ names tree (queue_of_lem q) time row) told_push r
      → r.number ≡ 0
  unfolding Takes
  empty_queue_pushed {ρ} names tree time row r a f s h =
      let handed : Handed ρ names tree (queue_of_lem q) = record { accepted = a; kept = empty_queue_keeps names _ } in
      (push_reliable names tree q time row).done_zero h
      (λ g d.
      refused_passed (push_order ρ names tree (queue_of_lem q) time row) _ _
      (push_passed (queue_of_lem q) time row f handed s (never_early time))
      (subst (Pushes ρ names tree (queue_of_lem q) time row) d h.is_allowed).comes.0.by)

  pub empty_queue_listed : {ρ : Rules} (names : ℕ) (tree steps tests edges operands : List ℕ) (time : ℕ)
      (row : List ℕ) (r : Pushed)
      → AcceptedAlternatives names tree steps tests edges operands → RowFits names (length row) → Codes row
      → Hands (ListedPushes ρ names tree steps tests edges operands (queue_of_lem q) time row) told_push r → r.number ≡ 0
  unfolding listed.Takes
  empty_queue_listed {ρ} names tree steps tests edges operands time row r a f s h =
      let handed : listed.Handed names tree steps tests edges operands (queue_of_lem q) =
      record { accepted = a; kept = empty_queue_keeps names _ } in
      (listed_push_reliable names tree steps tests edges operands q time row).done_zero h
      (λ g d.
      refused_passed (listed.push_order names tree steps tests edges operands (queue_of_lem q) time row) _ _
      (push_passed (queue_of_lem q) time row f handed s (never_early time))
      (subst (ListedPushes ρ names tree steps tests edges operands (queue_of_lem q) time row) d h.is_allowed).comes.0.by)
