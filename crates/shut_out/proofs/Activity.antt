-- The activity listing: refused exactly where the table says, on T not at all, with no other text than the one defined;
-- and the contract is the function's own.
--   Showable, activity      good input, and `Exactly` of the call
--   activity_on_T           T, given room, is not refused
--   no_other_activity       done, the text is at the front of the buffer, and its length is told
--   activity_attached       the function's contract
--   PartShowable, activity_part, part_on_T, no_other_part, part_attached      the same of a part
--   blocks_shown            a trace in blocks of up to 1,000 rows: no block is refused that has 1,145,069 bytes of room
use Rattle.std.specs.Prelude.{Err, Ok}
use Prim.Native.Nat.{ℕ, ◌-◌, ◌≤◌}
use native.Mathlib.Omega.{arith}
use mathlib.Core.Path.{◌≡◌, refl}
use mathlib.Core.List.{List}
use lib.ListN.{length}
use contract.Lifetimes.{Lfts}
use borrow.Fn.Kinds.{Dens}
use Rattle.alf.specs.Values.{old_rules_lem}
use Rattle.basics.specs.Refusing.{Outcome}
use Rattle.basics.specs.declared.Refusal.{Refusal}
use Rattle.basics.specs.Memory.{front, after}
use Rattle.alf.specs.Refusals.{Passed, Comes}
use Rattle.alf.specs.TableT.{rows, times, states}
use Rattle.alf.specs.Names.{names_in}
use Rattle.alf.proofs.Orders.{passed_both}
use Rattle.trace_format.specs.Format.{Trace}
use Rattle.trace_writer.specs.Writing.{lent_order, rows_order, lists_order}
use Rattle.trace_laws.proofs.RoundTrips.{lists_pass, rows_pass, trace_passes}
use Rattle.activity.specs.Activity.{activity_text, activity_order, ListsActivity}
use Rattle.activity.specs.Activity.{part_text, PartOf, some_order, part_order, ListsPart}
use Rattle.activity.proofs.Longest.{part_fits}
use Rattle.activity.proofs.texts.activity.Reads as says
use Rattle.activity.proofs.texts.activity.Kinds as kinds
use Rattle.activity.proofs.texts.activity_part.Reads as part_Says
use Rattle.activity.proofs.texts.activity_part.Kinds as part_kinds
use Rattle.demands.proofs.Demand1.{demand_1}
use Rattle.shut_out.specs.Reasons.{Exactly}
use Rattle.shut_out.specs.Asked.{letters}
use Rattle.shut_out.proofs.Reasons.{exactly, comes_parts}
use Rattle.shut_out.proofs.OnT.{trace_T}

module _ (names times states : List ℕ) (n : ℕ) (out : List ℕ) where
  pub record Showable : Type 0 where
    pub trace : Trace names times states n
    pub room : length (activity_text names times states n) ≤ length out

  showable_passes : Showable → Passed (activity_order names times states n (length out))
  unfolding Passed
  showable_passes g =
      passed_both (lists_order names times states n) _ (trace_passes g.trace)
      ((λ p a. omega (arith, a.given, g.room)), tt)

  pub activity : Exactly Showable (activity_order names times states n (length out)) Err
      (λ r m. ListsActivity names times states n out m r) out
  unfolding Comes after
  activity =
      exactly showable_passes
      (record {
        reason = λ r m w. w.outcome;
        parts = λ x m w. comes_parts _ _ x w.outcome;
        refuses = λ r h. record { outcome = h; memory = refl };
        one = ((demand_1 {ρ = old_rules_lem}).activity names times states n out).one;
      })

  pub no_other_activity : {m : ℕ} {out' : List ℕ} → ListsActivity names times states n out out' (Ok m)
      → (m ≡ length (activity_text names times states n)) × (out' ≡ front (activity_text names times states n) out)
  unfolding Comes after
  no_other_activity w = (w.outcome.1, w.memory)

pub activity_on_T : {out out' : List ℕ} (r : Refusal)
    → length (activity_text letters times states rows) ≤ length out
    → ListsActivity letters times states rows out out' (Err r) → ⊥
activity_on_T {out} {out'} r room w =
    (activity letters times states rows out).no_refusal (record { trace = trace_T; room = room }) r out' w

pub activity_attached : (κs : Lfts 4) (a : Dens κs kinds.ps) → says.Pre κs a
    × ((r : Outcome) (e : Dens κs kinds.ps) → says.Post κs a r e
    → ListsActivity a.0.now a.1.0.now a.1.1.0.now a.1.1.1.0 a.1.1.1.1.0.now
    e.1.1.1.1.0.now r)
activity_attached κs a = (tt, λ r e p. p)

-- a part
module _ (names times states : List ℕ) (n from to : ℕ) (out : List ℕ) where
  pub record PartShowable : Type 0 where
    pub trace : Trace names times states n
    pub part : PartOf n from to
    pub room : length (part_text names (names_in names) times states from (to - from)) ≤ length out

  part_passes : PartShowable → Passed (part_order names times states n from to (length out))
  unfolding Passed
  part_passes g =
      passed_both (lent_order names times states n)
      (some_order names (names_in names) times states n from to (length out)) (lists_pass g.trace) (
        (λ p a. a.given g.part),
        passed_both (rows_order (names_in names) times states from (to - from)) _
            (rows_pass g.trace from (to - from) (omega (arith, g.part.some, g.part.within)))
            ((λ p a. omega (arith, a.given, g.room)), tt),
      )

  pub activity_part : Exactly PartShowable (part_order names times states n from to (length out)) Err
      (λ r m. ListsPart names times states n from to out m r) out
  unfolding Comes after
  activity_part =
      exactly part_passes
      (record {
        reason = λ r m w. w.outcome;
        parts = λ x m w. comes_parts _ _ x w.outcome;
        refuses = λ r h. record { outcome = h; memory = refl };
        one = ((demand_1 {ρ = old_rules_lem}).activity_part names times states n from to out).one;
      })

  pub no_other_part : {m : ℕ} {out' : List ℕ} → ListsPart names times states n from to out out' (Ok m)
      → (m ≡ length (part_text names (names_in names) times states from (to - from)))
      × (out' ≡ front (part_text names (names_in names) times states from (to - from)) out)
  unfolding Comes after
  no_other_part w = (w.outcome.1, w.memory)

  -- the blocks of the program `show`
  pub blocks_shown : Trace names times states n → PartOf n from to → to - from ≤ 1000 → 1145069 ≤ length out
      → (r : Refusal) (out' : List ℕ) → ListsPart names times states n from to out out' (Err r) → ⊥
  blocks_shown t p few room =
      activity_part.no_refusal
      (record { trace = t; part = p; room = omega (arith, part_fits t from (to - from), few, room) })

pub part_on_T : {out out' : List ℕ} {from to : ℕ} (r : Refusal) → PartOf rows from to
    → length (part_text letters (names_in letters) times states from (to - from)) ≤ length out
    → ListsPart letters times states rows from to out out' (Err r) → ⊥
part_on_T {out} {out'} {from} {to} r p room w =
    (activity_part letters times states rows from to out).no_refusal
    (record { trace = trace_T; part = p; room = room }) r out' w

pub part_attached : (κs : Lfts 4) (a : Dens κs part_kinds.ps) → part_Says.Pre κs a
    × ((r : Outcome) (e : Dens κs part_kinds.ps) → part_Says.Post κs a r e
    → ListsPart a.0.now a.1.0.now a.1.1.0.now a.1.1.1.0 a.1.1.1.1.0
    a.1.1.1.1.1.0 a.1.1.1.1.1.1.0.now e.1.1.1.1.1.1.0.now r)
part_attached κs a = (tt, λ r e p. p)
