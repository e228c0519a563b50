-- The theorems of the trace files.
--   exact_accepted, exact_trace   a file is accepted exactly when it is the bytes of some trace
--   names_of_lem, times_of_lem, states_of_lem   what a trace of a file holds is what the file says
-- That a file has one trace, and a refused file none, is in OneTrace.antt; that any two outcomes coincide, and both
-- round trips, are in RoundTrips.antt.
-- `exact_trace` assumes that the file is a list of bytes.
use mathlib.Core.Path.{◌≡◌, sym}
use mathlib.Core.List.{List}
use Prim.Native.Nat.{ℕ, ◌<◌}
use lib.ListN.{get_or}
use Rattle.alf.specs.Names.{names_in}
use Rattle.alf.proofs.Outcomes.{AllFixed, at_fixed}
use Rattle.trace_reader.specs.Reading.{Reading}
use Rattle.trace_format.specs.Format.{Fitting, file_in, Trace}
use Rattle.trace_format.specs.Records.{width_in}
use Rattle.trace_reader.specs.Reading.{Accepted, FileRefused, room_order, Got}
use Rattle.record_copies.specs.HeldLists.{names_of, times_of, states_of}
use Rattle.trace_reader.proofs.AcceptedTraces.{accepted_trace, accepted_fits, accepted_bytes}
use Rattle.trace_laws.proofs.BytesAccepted.{trace_accepted, held_names, held_times_lem, held_states}

-- a trace whose bytes a file is, with some widths of its times
pub record TraceOf (file : List ℕ) (k n : ℕ) : Type 0 where
  pub names : List ℕ
  pub times : List ℕ
  pub states : List ℕ
  pub trace : Trace names times states n
  pub widths : ℕ → ℕ
  pub fitting : Fitting widths times n
  pub bytes : file ≡ file_in widths names times states n
  pub counted : k ≡ names_in names

pub exact_accepted : {file : List ℕ} {k n : ℕ} → TraceOf file k n → Accepted file k n
exact_accepted t = rw (t.bytes, t.counted) (trace_accepted t.trace t.widths t.fitting)

pub exact_trace : {file : List ℕ} {k n : ℕ} → ((i : ℕ) → get_or file i 0 < 256) → Accepted file k n
    → TraceOf file k n
exact_trace {file} {k} {n} bytes a =
    record {
      names = names_of file k;
      times = times_of file k n;
      states = states_of file k n;
      trace = accepted_trace a bytes;
      widths = width_in file k;
      fitting = accepted_fits a bytes;
      bytes = accepted_bytes a bytes;
      counted = sym (Rattle.trace_reader.proofs.AcceptedTraces.counted a);
    }

-- what a trace of a file holds
module _ {file : List ℕ} {k n : ℕ} (t : TraceOf file k n) where
  pub names_of_lem : t.names ≡ names_of file k
  names_of_lem = sym (rw (t.bytes, t.counted) (held_names t.trace t.widths t.fitting))

  pub times_of_lem : t.times ≡ times_of file k n
  times_of_lem = sym (rw (t.bytes, t.counted) (held_times_lem t.trace t.widths t.fitting))

  pub states_of_lem : t.states ≡ states_of file k n
  states_of_lem = sym (rw (t.bytes, t.counted) (held_states t.trace t.widths t.fitting))

pub record Same (names times states : List ℕ) (n : ℕ) (names' times' states' : List ℕ) (n' : ℕ)
    : Type 0 where
  pub names_same : names ≡ names'
  pub times_same : times ≡ times'
  pub states_same : states ≡ states'
  pub rows_same : n ≡ n'

-- a reading
module _ {file names times states : List ℕ} where
  abbrev pub got_trace : {k n : ℕ} {names' times' states' : List ℕ}
      → Got file names times states k n names' times'
      states' → TraceOf file k n
  got_trace g =
      record {
        names = g.ns;
        times = g.ts;
        states = g.ss;
        trace = g.trace;
        widths = g.widths;
        fitting = g.fitting;
        bytes = g.bytes;
        counted = g.named;
      }

pub room_fixed : (names times states : List ℕ) (k n : ℕ) → AllFixed (room_order names times states k n)
room_fixed names times states k n = (at_fixed _ _, (at_fixed _ _, (at_fixed _ _, tt)))

pub record OneReading
    (r : Reading) (names times states : List ℕ) (r' : Reading) (names' times' states' : List ℕ) : Type 0
  where
    pub answer : r ≡ r'
    pub names_now : names ≡ names'
    pub times_now : times ≡ times'
    pub states_now : states ≡ states'
