-- What the correction comes to, case by case.
--   judges_correction     verdicts put together: of the trace, of the new row, of its place
--   correction_asked, correction_refused, correction_told
use Rattle.std.specs.Prelude.{Err, Ok}
use mathlib.Core.Path.{◌≡◌, refl}
use mathlib.Core.Bool.{Bool}
use mathlib.Core.List.{List, ◌++◌}
use Prim.Native.Nat.{ℕ, ◌<◌}
use lib.ListN.{length}
use Rattle.basics.specs.declared.Refusal.{Refusal}
use Rattle.alf.specs.declared.Rules.{Rules}
use Rattle.alf.specs.declared.Sort.TheVariants.{Vector}
use Rattle.alf.specs.Refusals.{Comes}
use Rattle.acceptance.specs.Accepted.{Accepted}
use Rattle.basics.specs.Deciding.{Decides}
use Rattle.states.specs.FirstBadCode.{Codes}
use Rattle.judging.specs.Orders.{Verdict}
use Rattle.judging.specs.Orders.{codes, place, Judged, JudgesTrace, JudgesCorrection}
use Rattle.basics.specs.Memory.{after}
use Rattle.update_calls.specs.Correcting.{Lists, correction_order, Correction, TreeCorrection, CorrectsTree}
use Rattle.judging.proofs.Verdicts.{judged_as, judged_good, judged_not, judged_stop, judged_go, judged_facts}
use Rattle.matching_calls.proofs.Matches.{rows_asked}

-- verdicts one after the other
module _ {fits good : Bool} {states new : List ℕ} {n row : ℕ} {a : Verdict} (x : JudgesTrace fits good states a) where
  pub trace_refused : {r : Refusal} → a ≡ Err r → JudgesCorrection fits good states new n row (Err r)
  trace_refused e =
      record {
        is = judged_facts (λ ((f, g, s), (w, k)). (f, g, (s, w, k)))
            (judged_stop (codes new ++ place n row) {G = Codes new × (row < n)} x.is e);
      }

  module _ (d : a ≡ (Ok tt)) {b : Verdict} (y : Judged (codes new) (Codes new) b) where
    pub new_refused : {r : Refusal} → b ≡ Err r → JudgesCorrection fits good states new n row (Err r)
    new_refused e =
        record {
          is = judged_facts (λ ((f, g, s), (w, k)). (f, g, (s, w, k)))
              (judged_go x.is d (judged_stop (place n row) {G = row < n} y e));
        }

    pub new_good : b ≡ (Ok tt) → {c : Verdict} → Judged (place n row) (row < n) c
        → JudgesCorrection fits good states new n row c
    new_good e z =
        record { is = judged_facts (λ ((f, g, s), (w, k)). (f, g, (s, w, k))) (judged_go x.is d (judged_go y e z)) }

module _ {ρ : Rules} {names n : ℕ} {tree states : List ℕ} (answers : List ℕ) {row : ℕ} {new : List ℕ} {fits good : Bool}
    {v : Verdict}
    (f : Decides fits (Lists names n (length states) (length answers) (length new)))
    (g : Decides good (Accepted ρ names Vector tree)) (j : JudgesCorrection fits good states new n row v) where
  as_correction : Judged (correction_order ρ names n tree states answers row new)
      (Lists names n (length states) (length answers) (length new) × Accepted ρ names Vector tree
      × (Codes states × Codes new × (row < n))) v
  as_correction = judged_as fits good _ _ f (λ x. g) _ j.is

  pub correction_asked : v ≡ (Ok tt) → TreeCorrection ρ names n tree states answers row new
  correction_asked e =
      let (l, a, (s, w, r)) = (judged_good as_correction e).1 in
      record {
        asked = record { accepted = a; rows = rows_asked l.rows s };
        there = r;
        room = l.room;
        full = l.full;
        codes = w;
      }

  pub correction_refused : {r : Refusal} → v ≡ Err r
      → Correction ρ names n tree states answers row new states answers (Err r)
  unfolding Comes after
  correction_refused e =
      record { comes = judged_not as_correction e; states_memory = refl; answers_memory = refl }

  pub correction_told : {states' answers' : List ℕ} → v ≡ (Ok tt)
      → CorrectsTree ρ names n tree states answers row new states' answers'
      → Correction ρ names n tree states answers row new states' answers' (Ok 1)
  unfolding Comes after
  correction_told e k =
      record {
        comes = ((judged_good as_correction e).0, refl);
        states_memory = k.stored;
        answers_memory = k.answered;
      }
