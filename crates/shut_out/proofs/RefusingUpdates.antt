-- Shut out: "refusing everything (the table says 'exactly when')", for the correction of a row and the queue.
--   Correctable, Pushable   what good input is
--   correct, push           it is not refused, and anything else is refused as the table says
use Rattle.std.specs.Prelude.{Err, Ok}
use Prim.Native.Nat.{ℕ, ◌<◌}
use native.Mathlib.Omega.{arith}
use mathlib.Core.Path.{◌≡◌, refl}
use mathlib.Core.Logic.{◌⊎◌, inl, inr}
use mathlib.Core.List.{List}
use lib.ListN.{length}
use Rattle.alf.specs.declared.Rules.{Rules}
use Rattle.alf.specs.declared.Sort.TheVariants.{Vector}
use Rattle.alf.specs.Refusals.{Passed, Comes}
use Rattle.acceptance.specs.Accepted.{Accepted}
use Rattle.timed_queue.specs.declared.queues.Queue.{Queue}
use Rattle.states.specs.FirstBadCode.{Codes}
use Rattle.matching_calls.specs.Matching.{Matching}
use Rattle.basics.specs.Memory.{after}
use Rattle.update_calls.specs.Correcting.{correction_order, Correction}
use Rattle.queue_calls.specs.Pushing.{Early, RowFits, Handed, push_order, Takes, Push}
use Rattle.call_laws.proofs.Passing.{codes_never, push_passed}
use Rattle.demands.proofs.Demand1.{demand_1}
use Rattle.shut_out.specs.Reasons.{IsRefusal, Exactly}
use Rattle.shut_out.proofs.Reasons.{exactly, comes_parts, Two}
use Rattle.shut_out.proofs.RefusingRows.{GoodTrace}

-- The correction of a row.
module _ (ρ : Rules) (names n : ℕ) (tree states : List ℕ) where
  module _ (answers : List ℕ) (row : ℕ) (new : List ℕ) where
    pub record Correctable : Type 0 where
      pub trace : GoodTrace names n states
      pub accepted : Accepted ρ names Vector tree
      pub room : length answers ≡ n
      pub full : length new ≡ names
      pub codes : Codes new
      pub there : row < n

    correct_passes : Correctable → Passed (correction_order ρ names n tree states answers row new)
    unfolding Passed
    correct_passes g = (
      λ p x. x.given (record { room = g.room; full = g.full; rows = g.trace.lists }),
      (
        λ p x. x.given g.accepted,
        (
          codes_never states g.trace.codes,
          (codes_never new g.codes, (λ p x. omega (arith, g.there, x.given), tt)),
        ),
      ),
    )

    pub correct : Exactly {M = Two} Correctable (correction_order ρ names n tree states answers row new) Err
        (λ r m. Correction ρ names n tree states answers row new m.0 m.1 r) (states, answers)
    unfolding Comes after
    correct =
        exactly correct_passes
        (record {
          reason = λ r m w. w.comes;
          parts = λ x m w. comes_parts _ _ x w.comes;
          refuses = λ r h. record { comes = h; states_memory = refl; answers_memory = refl };
          one = (demand_1.correct names n tree states answers row new).one;
        })

-- The queue.
module _ (ρ : Rules) (names : ℕ) (tree : List ℕ) (queue : Queue) (time : ℕ) (row : List ℕ) where
  pub record Pushable : Type 0 where
    pub handed : Handed ρ names tree queue
    pub fits : RowFits names (length row)
    pub codes : Codes row
    pub above : Early queue time → ⊥

  takes_parts : (x : Matching) (q : Queue) → Takes ρ names tree queue time row x q
      → Passed (push_order ρ names tree queue time row) ⊎ IsRefusal Err x
  unfolding Takes
  takes_parts (Ok m) q w = inl w.0
  takes_parts (Err r) q w = inr (r, refl)

  pub push : Exactly Pushable (push_order ρ names tree queue time row) Err
      (λ r q. Push ρ names tree queue time row r q) queue
  unfolding Takes
  push =
      exactly (λ g. push_passed queue time row g.fits g.handed g.codes g.above)
      (record {
        reason = λ r q w. w.comes.0;
        parts = λ x q w. takes_parts x q w.comes;
        refuses = λ r h. record { comes = (h, refl) };
        one = (demand_1.push names tree queue time row).one;
      })
