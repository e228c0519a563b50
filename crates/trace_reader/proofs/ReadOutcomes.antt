-- What reading comes to once a file is accepted: short of room, or the trace in the three lists.
-- Main names: short_names, short_times, short_states, filled, refused. Assumes that the file is a list of bytes.
use Rattle.std.specs.Prelude.{Err, Ok}
use Rattle.trace_reader.specs.Reading.{size}
use mathlib.Core.Path.{◌≡◌, refl, sym, ◌∙◌}
use mathlib.Core.List.{List}
use mathlib.Core.Logic.{inl, inr}
use Prim.Native.Nat.{ℕ, ◌*◌, ◌≤◌, ◌<◌}
use native.Mathlib.Omega.{arith}
use lib.ListN.{length, get_or}
use Rattle.basics.specs.Memory.{front}
use Rattle.basics.specs.Refusing.{refusal}
use Rattle.basics.specs.declared.Refusal.{Refusal}
use Rattle.alf.specs.Refusals.{RefusedWith, Passed}
use Rattle.trace_reader.specs.Reading.{Reading}
use Rattle.trace_format.specs.Records.{name_end, width_in}
use Rattle.trace_format.proofs.RowByRow.{codes_bound}
use Rattle.trace_reader.specs.Reading.{Accepted, Reads}
use Rattle.record_copies.specs.HeldLists.{names_of, times_of, states_of, NamesFit, RowsFit}
use Rattle.trace_reader.specs.Checking.{Checked}
use Rattle.record_checks.proofs.CursorSteps.{place_zero}
use Rattle.trace_reader.proofs.AcceptedTraces.{
  few_names,
  few_rows,
  counted,
  accepted_trace,
  accepted_fits,
  accepted_bytes,
}

abbrev Short : Reading → ℕ → Type 0
Short r needed = r ≡ Err (refusal 9 needed)

pub codes_few : {file : List ℕ} {k n : ℕ} → Accepted file k n → n * k ≤ 2097120
codes_few a = codes_bound (few_rows a) (few_names a)

module _ {file : List ℕ} {k n : ℕ} (accepted : Accepted file k n) where
  pub names_fit_lem : {names : List ℕ} → k * 32 ≤ length names → NamesFit file k names
  names_fit_lem h = record { names = accepted.before.names; room = h }

  pub rows_fit : {at each : ℕ} {out : List ℕ} → at ≡ name_end file k → n * each ≤ length out
      → RowsFit file k at n each
      out
  rows_fit e h = record { there = e ∙ sym (place_zero file k); rows = accepted.before.rows; room = h }

module _ {file : List ℕ} {k n : ℕ} (accepted : Accepted file k n) (names times states : List ℕ) where
  short :
      {r : Reading} (needed : ℕ) →
      Short r needed →
      RefusedWith (Rattle.trace_reader.specs.Reading.room_order names times states k n) 9 needed →
      Reads file names times states names times states r
  unfolding Reads
  short needed e h =
      rw e (
        inr (record { k = k; n = n; accepted = accepted; refused = h }),
        refl,
        record { names_kept = refl; times_kept = refl; states_kept = refl },
      )

  pub short_names :
      {r : Reading} → Short r (k * 32) → length names < k * 32 →
      Reads file names times states names times states r
  unfolding RefusedWith
  short_names e h = short (k * 32) e (inl (refl, record { given = h; there = refl }))

  module _ (room₀ : k * 32 ≤ length names) where
    pub short_times :
        {r : Reading} → Short r n → length times < n → Reads file names times states names times states r
    unfolding RefusedWith
    short_times e h =
        short n e (inr ((λ p a. omega (arith, a.given)), inl (refl, record { given = h; there = refl })))

    module _ (room₁ : n ≤ length times) where
      pub short_states :
          {r : Reading} → Short r (n * k) → length states < n * k →
          Reads file names times states names times states r
      unfolding RefusedWith
      short_states e h =
          short (n * k) e
          (inr (
            (λ p a. omega (arith, a.given)),
            inr ((λ p a. omega (arith, a.given)), inl (refl, record { given = h; there = refl })),
          ))

      module _ (room₂ : n * k ≤ length states) where
        pub filled :
            ((i : ℕ) → get_or file i 0 < 256) →
            {names' times' states' : List ℕ} →
            names' ≡ front (names_of file k) names →
            times' ≡ front (times_of file k n) times →
            states' ≡ front (states_of file k n) states →
            Reads file names times states names' times' states' (Ok (size k n))
        unfolding Reads Passed
        filled bytes e f g =
            record {
              ns = names_of file k;
              ts = times_of file k n;
              ss = states_of file k n;
              trace = accepted_trace accepted bytes;
              widths = width_in file k;
              fitting = accepted_fits accepted bytes;
              bytes = accepted_bytes accepted bytes;
              named = sym (counted accepted);
              room = (
                (λ p a. omega (arith, a.given)),
                ((λ p a. omega (arith, a.given)), ((λ p a. omega (arith, a.given)), tt)),
              );
              names_now = e;
              times_now = f;
              states_now = g;
            }

-- a file that is refused
pub refused :
    (file names times states : List ℕ) (r : Refusal) →
    Checked file (Err r) →
    Reads file names times states names times states (Err r)
unfolding Checked Reads
refused file names times states r c =
    (inl c.0, c.1, record { names_kept = refl; times_kept = refl; states_kept = refl })
