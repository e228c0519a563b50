-- A text read as a trace: refused exactly where its order says, not refused where it shows T, with no other trace than
-- the one defined; and the contract is the function's own and asks nothing.
--   Makable, make_trace      good input, and `Exactly` of the call
--   no_other_trace           read, the text's trace is at the front of the lists, and its size is told
--   made_and_refused         a text that is not refused, and for which there is room, is not refused
--   wrote_and_refused        where it is refused, the lists are as before
--   made_on_T                what `show` prints of T, given room, is not refused
--   make_trace_attached      the contract of `make_trace`
use Rattle.std.specs.Prelude.{Err, Ok}
use Rattle.trace_reader.specs.Reading.{size}
use Prim.Native.Nat.{ℕ, ◌*◌, ◌≤◌}
use native.Mathlib.Omega.{arith}
use mathlib.Core.Path.{◌≡◌, refl, ap}
use mathlib.Core.Bool.{Bool, true, false}
use mathlib.Core.Logic.{◌⊎◌, inl, inr}
use mathlib.Core.List.{List}
use lib.ListN.{length}
use contract.Lifetimes.{Lfts}
use borrow.Fn.Kinds.{Dens}
use Rattle.basics.specs.declared.Refusal.{Refusal}
use Rattle.basics.specs.Memory.{front}
use Rattle.basics.proofs.Bools.{never}
use Rattle.alf.specs.Values.{old_rules_lem}
use Rattle.alf.specs.Names.{names_in}
use Rattle.alf.specs.Refusals.{Passed}
use Rattle.alf.specs.TableT.{rows, times, states}
use Rattle.alf.proofs.Orders.{passed_both}
use Rattle.alf.proofs.Outcomes.{refused_passed}
use Rattle.trace_reader.specs.Reading.{Reading}
use Rattle.trace_reader.specs.Reading.{room_order, Untouched}
use Rattle.activity.specs.Activity.{activity_text}
use Rattle.trace_texts.specs.Texts.{names_made, times_made, states_made, text_order}
use Rattle.text_reading.specs.Reading.{head_of, rows_of, name_count, row_count, read_order, MakesTrace}
use Rattle.text_reading.proofs.reading.make_trace.Reads as says
use Rattle.text_reading.proofs.reading.make_trace.Kinds as kinds
use Rattle.trace_text_laws.proofs.ReadBack.{shown_read}
use Rattle.trace_text_laws.proofs.Inverse.{read_back}
use Rattle.demands.proofs.Demand1.{demand_1}
use Rattle.shut_out.specs.Reasons.{IsRefusal, Exactly}
use Rattle.shut_out.specs.Asked.{letters}
use Rattle.shut_out.proofs.Reasons.{exactly, Three}
use Rattle.shut_out.proofs.OnT.{trace_T, letters_count}

-- room for k names and n rows
rooms : (names times states : List ℕ) (k n : ℕ) → k * 32 ≤ length names → n ≤ length times → n * k ≤ length states
    → Passed (room_order names times states k n)
unfolding Passed
rooms names times states k n a b c = (
  λ p x. omega (arith, x.given, a),
  (λ p x. omega (arith, x.given, b), (λ p x. omega (arith, x.given, c), tt)),
)

module _ (text names times states : List ℕ) where
  -- no word of the text is refused, and its trace fits
  pub record Makable : Type 0 where
    pub said : Passed (text_order text)
    pub names_fit_lem : name_count text * 32 ≤ length names
    pub times_fit : row_count text ≤ length times
    pub states_fit : row_count text * name_count text ≤ length states

  makable_passes : Makable → Passed (read_order text names times states)
  makable_passes g =
      passed_both (text_order text) _ g.said
      (rooms names times states (name_count text) (row_count text) g.names_fit_lem g.times_fit g.states_fit)

  made_parts : (x : Reading) (m : Three) → MakesTrace text names times states m.0 m.1 m.2 x
      → Passed (read_order text names times states) ⊎ IsRefusal Err x
  unfolding MakesTrace
  made_parts (Ok s) m w = inl w.passes
  made_parts (Err r) m w = inr (r, refl)

  pub make_trace : Exactly {M = Three} Makable (read_order text names times states) Err
      (λ r m. MakesTrace text names times states m.0 m.1 m.2 r) (names, times, states)
  unfolding MakesTrace
  make_trace =
      exactly makable_passes
      (record {
        reason = λ r m w. w.0;
        parts = made_parts;
        refuses = λ r h. (h, record { names_kept = refl; times_kept = refl; states_kept = refl });
        one = ((demand_1 {ρ = old_rules_lem}).make_trace text names times states).one;
      })

  module _ (names' times' states' : List ℕ) where
    pub no_other_trace : {k n : ℕ} → MakesTrace text names times states names' times' states' (Ok (size k n))
        → (k ≡ name_count text) × (n ≡ row_count text) × (names' ≡ front (names_made (head_of text)) names)
        × (times' ≡ front (times_made (rows_of text)) times)
        × (states' ≡ front (states_made (name_count text) (rows_of text)) states)
    unfolding MakesTrace
    no_other_trace w = (w.named, w.counted, w.names_now, w.times_now, w.states_now)

    module _ (r : Refusal) (h : MakesTrace text names times states names' times' states' (Err r)) where
      pub made_and_refused : Passed (read_order text names times states) → ⊥
      unfolding MakesTrace
      made_and_refused p = refused_passed _ _ _ p h.0.by

      pub wrote_and_refused : Untouched names times states names' times' states'
      unfolding MakesTrace
      wrote_and_refused = h.1

told : Reading → Bool
told (Ok s) = true
told (Err r) = false

pub made_on_T : (n₀ t₀ s₀ : List ℕ) (n₁ t₁ s₁ : List ℕ) (r : Refusal) → 96 ≤ length n₀ → 6 ≤ length t₀
    → 18 ≤ length s₀ → MakesTrace (activity_text letters times states rows) n₀ t₀ s₀ n₁ t₁ s₁ (Err r) → ⊥
unfolding told
made_on_T n₀ t₀ s₀ n₁ t₁ s₁ r a b c w =
    let room =
    rooms n₀ t₀ s₀ (names_in letters) rows (omega (arith, a, ap (λ (k : ℕ). k * 32) letters_count)) b
    (omega (arith, c, ap (λ (k : ℕ). 6 * k) letters_count)) in
    never (ap told (read_back trace_T (shown_read trace_T) n₀ t₀ s₀ room (Err r) w).told)

pub make_trace_attached : (κs : Lfts 4) (a : Dens κs kinds.ps) → says.Pre κs a
    × ((r : Reading) (e : Dens κs kinds.ps) → says.Post κs a r e
    → MakesTrace a.0.now a.1.0.now a.1.1.0.now a.1.1.1.0.now e.1.0.now
    e.1.1.0.now
    e.1.1.1.0.now r)
make_trace_attached κs a = (tt, λ r e p. p)
