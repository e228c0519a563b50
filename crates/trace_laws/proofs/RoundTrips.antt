-- Outcomes are unique, and both ways round give back what was put in.
--   reads_unique     any two outcomes of a reading coincide, and so does the memory
--   writes_unique    likewise of a writing
--   checks_unique, lists_unique    likewise of the check of a trace in lists, and of the lists alone
--   rows_pass, lists_pass, trace_passes     a trace passes that check, in its parts and as a whole
--   read_any         reading the bytes of a trace gives the trace
--   read_write       reading what was written gives the same names, times and states
-- What writing makes of a file that was read is in Rewritten.antt.
use Rattle.std.specs.Prelude.{Err, Ok}
use Rattle.trace_reader.specs.Reading.{size}
use mathlib.Core.Path.{◌≡◌, refl, sym, ap, ◌∙◌}
use mathlib.Core.List.{List}
use mathlib.Core.Logic.{◌⊎◌, inl, inr}
use Prim.Native.Nat.{ℕ, zero, suc, ◌+◌, ◌-◌, ◌*◌, ◌<◌, ◌≤◌}
use native.Mathlib.Omega.{arith}
use lib.ListN.{length}
use Rattle.alf.specs.Names.{names_in}
use Rattle.basics.specs.Refusing.{Outcome}
use Rattle.alf.specs.Refusals.{Passed, Comes}
use Rattle.basics.proofs.Refusals.{refusal_same}
use Rattle.alf.proofs.Outcomes.{at_fixed, first_fixed, refused_passed, refused_unique, comes_unique}
use Rattle.alf.proofs.Orders.{passed_both, fixed_both}
use Rattle.trace_reader.specs.Reading.{Reading}
use Rattle.trace_format.specs.Format.{Fitting, fewest_of, file_in, file_of, Trace}
use Rattle.trace_reader.specs.Reading.{FileRefused, RoomRefused, room_order, Got, Reads}
use Rattle.trace_writer.specs.Writing.{lent_order, rows_order, lists_order, write_order, Writes, BadState}
use Rattle.trace_writer.proofs.TraceChecks.{trace_fixed}
use Rattle.basics.specs.Memory.{after, front}
use Rattle.trace_format.proofs.RowByRow.{room_for}
use Rattle.trace_laws.proofs.Places.{accepted_unique, accepted_refused, refusal_unique}
use Rattle.trace_laws.proofs.Theorems.{exact_accepted, got_trace, room_fixed}
use Rattle.trace_laws.proofs.OneTrace.{one_trace, refused_none}
use Rattle.trace_laws.proofs.Theorems.{OneReading}
use Rattle.trace_laws.proofs.Widths.{fewest_fits}
use Rattle.basics.proofs.Memory.{after_unique}

module _ (file names times states : List ℕ) where
  -- not both read and refused
  not_both :
      {k n number p : ℕ} {names' times' states' : List ℕ} →
      Got file names times states k n names' times' states' →
      FileRefused file number p ⊎ RoomRefused file names times states number p →
      ⊥
  not_both g (inl f) = refused_none f (got_trace g)
  not_both {k} {n} {number} {p} g (inr q) =
      let e = accepted_unique (exact_accepted (got_trace g)) q.accepted in
      refused_passed (room_order names times states q.k q.n) number p (rw (e.0, e.1) at g.room) q.refused

  one_refusal :
      {number p number' p' : ℕ} →
      FileRefused file number p ⊎ RoomRefused file names times states number p →
      FileRefused file number' p' ⊎ RoomRefused file names times states number' p' →
      (number ≡ number') × (p ≡ p')
  one_refusal (inl f) (inl g) = refusal_unique f g
  one_refusal (inl f) (inr q) = absurd (accepted_refused q.accepted f)
  one_refusal (inr q) (inl f) = absurd (accepted_refused q.accepted f)
  one_refusal (inr q) (inr s) =
      let e = accepted_unique q.accepted s.accepted in
      refused_unique (room_order names times states s.k s.n) (room_fixed names times states s.k s.n)
      (rw (e.0, e.1) at q.refused) s.refused

  pub reads_unique :
      (r r' : Reading) {n₁ t₁ s₁ n₂ t₂ s₂ : List ℕ} →
      Reads file names times states n₁ t₁ s₁ r →
      Reads file names times states n₂ t₂ s₂ r' →
      OneReading r n₁ t₁ s₁ r' n₂ t₂ s₂
  unfolding Reads
  reads_unique (Ok s) (Ok s') g h =
      let e = accepted_unique (exact_accepted (got_trace g)) (exact_accepted (got_trace h)) in
      let o = one_trace (got_trace g) (got_trace h) in
      record {
        answer = λ i. Ok (size (e.0 i) (e.1 i));
        names_now = g.names_now ∙ ap (λ (x : List ℕ). front x names) o.names_same ∙ sym h.names_now;
        times_now = g.times_now ∙ ap (λ (x : List ℕ). front x times) o.times_same ∙ sym h.times_now;
        states_now = g.states_now ∙ ap (λ (x : List ℕ). front x states) o.states_same ∙ sym h.states_now;
      }
  reads_unique (Ok s) (Err q) g h = absurd (not_both g h.0)
  reads_unique (Err p) (Ok s) g h = absurd (not_both h g.0)
  reads_unique (Err p) (Err q) g h =
      let e = one_refusal g.0 h.0 in
      record {
        answer = ap Err (refusal_same e (g.1 ∙ sym h.1));
        names_now = g.2.names_kept ∙ sym h.2.names_kept;
        times_now = g.2.times_kept ∙ sym h.2.times_kept;
        states_now = g.2.states_kept ∙ sym h.2.states_kept;
      }

pub checks_unique :
    (names times states : List ℕ) (n : ℕ) (r s : Outcome) →
    Comes (lists_order names times states n) (λ k. k ≡ names_in names) r →
    Comes (lists_order names times states n) (λ k. k ≡ names_in names) s →
    r ≡ s
checks_unique names times states n r s a b =
    comes_unique (lists_order names times states n) _ (trace_fixed names times states n) (λ j k x y. x ∙ sym y) r s a b

-- and of the check of the lists alone
pub lists_unique :
    (names times states : List ℕ) (n : ℕ) (r s : Outcome) →
    Comes (lent_order names times states n) (λ k. k ≡ names_in names) r →
    Comes (lent_order names times states n) (λ k. k ≡ names_in names) s →
    r ≡ s
lists_unique names times states n r s a b =
    comes_unique (lent_order names times states n) _ (at_fixed _ _, (first_fixed _, tt)) (λ j k x y. x ∙ sym y) r s a b

pub record OneWriting (r : Outcome) (out : List ℕ) (r' : Outcome) (out' : List ℕ) : Type 0 where
  pub answer : r ≡ r'
  pub memory : out ≡ out'

module _ {names times states : List ℕ} {n : ℕ} {out : List ℕ} where
  pub writes_unique :
      {r r' : Outcome} {o₁ o₂ : List ℕ} →
      Writes names times states n out o₁ r →
      Writes names times states n out o₂ r' →
      OneWriting r o₁ r' o₂
  writes_unique {r} {r'} w v =
      let e : r ≡ r' =
      comes_unique (write_order names times states n (length out)) _
      (fixed_both (lists_order names times states n) _ (trace_fixed names times states n) (at_fixed _ _, tt))
      (λ j k x y. x ∙ sym y) r r' w.outcome v.outcome
      in
      record {
        answer = e;
        memory = after_unique _ out e w.memory v.memory;
      }

-- a trace passes the checks of writing
module _ {names times states : List ℕ} {n : ℕ} (t : Trace names times states n) where
  pub rows_pass : (first r : ℕ) → first + r ≤ n → Passed (rows_order (names_in names) times states first r)
  unfolding rows_order Passed
  rows_pass first zero h = tt
  rows_pass first (suc j) h =
      let inside : first + j < n = omega arith in
      passed_both (rows_order (names_in names) times states first j) _ (rows_pass first j (omega arith)) (
        (λ p a.
            let l : 0 < first + j = a.given.0 in
            let e : suc (first + j - 1) ≡ first + j = omega arith in
            omega (arith, rw e at (t.rising (first + j - 1) (omega arith)), a.given.1)),
        (
          (λ p a.
              let b : BadState (names_in names) states (first + j) p = a.given in
              omega (
                arith,
                b.above,
                t.codes p (omega
                    (arith, b.to, room_for (first + j) n (names_in names) inside, t.lists.states_all)),
              )),
          tt,
        ),
      )

  pub lists_pass : Passed (lent_order names times states n)
  unfolding Passed
  lists_pass = (
    (λ p a. a.given (record { slots = t.slots; lists = t.lists })),
    ((λ p a. a.given.1 (t.good p a.given.0)), tt),
  )

  pub trace_passes : Passed (lists_order names times states n)
  trace_passes = passed_both (lent_order names times states n) _ lists_pass (rows_pass 0 n (omega arith))

  pub writing_passes : {room : ℕ} → length (file_of names times states n) ≤ room → Passed
      (write_order names times states n room)
  unfolding Passed
  writing_passes h =
      passed_both (lists_order names times states n) _ trace_passes ((λ p a. omega (arith, a.given)), tt)

  -- writing a trace into enough room gives its bytes
  pub writes_bytes :
      {out out' : List ℕ} (r : Outcome) →
      length (file_of names times states n) ≤ length out →
      Writes names times states n out out' r →
      OneWriting r out' (Ok (length (file_of names times states n))) (front (file_of names times states n) out)
  unfolding Comes after
  writes_bytes (Ok m) h w = record { answer = ap Ok w.outcome.1; memory = w.memory }
  writes_bytes {out} (Err r) h w =
      absurd (refused_passed (write_order names times states n (length out)) _ _ (writing_passes h) w.outcome.by)

  -- reading the bytes of a trace, whatever the widths of its times, gives its names, times and states
  module _ (widths : ℕ → ℕ) (fitting : Fitting widths times n) where
    pub read_any :
        (n₀ t₀ s₀ : List ℕ) {n₁ t₁ s₁ : List ℕ} (r : Reading) →
        length names ≤ length n₀ →
        n ≤ length t₀ →
        n * names_in names ≤ length s₀ →
        Reads (file_in widths names times states n) n₀ t₀ s₀ n₁ t₁ s₁ r →
        OneReading r n₁ t₁ s₁ (Ok (size (names_in names) n)) (front names n₀) (front times t₀) (front states s₀)
    unfolding Reads Passed
    read_any n₀ t₀ s₀ r hn ht hs w =
        reads_unique (file_in widths names times states n) n₀ t₀ s₀ r (Ok (size (names_in names) n)) w
        (record {
          ns = names;
          ts = times;
          ss = states;
          trace = t;
          widths = widths;
          fitting = fitting;
          bytes = refl;
          named = refl;
          room = (
            (λ p a. omega (arith, a.given, t.slots.whole)),
            ((λ p a. omega (arith, a.given)), ((λ p a. omega (arith, a.given)), tt)),
          );
          names_now = refl;
          times_now = refl;
          states_now = refl;
        })

  -- reading what was written gives the same names, times and states
  pub read_write :
      (n₀ t₀ s₀ : List ℕ) {n₁ t₁ s₁ : List ℕ} (r : Reading) →
      length names ≤ length n₀ →
      n ≤ length t₀ →
      n * names_in names ≤ length s₀ →
      Reads (file_of names times states n) n₀ t₀ s₀ n₁ t₁ s₁ r →
      OneReading r n₁ t₁ s₁ (Ok (size (names_in names) n)) (front names n₀) (front times t₀) (front states s₀)
  read_write = read_any (fewest_of times) (fewest_fits t)
