-- A file and its traces.
--   one_trace      a file has one trace
--   refused_none   a refused file is the bytes of none
use mathlib.Core.Path.{◌≡◌, sym, ap, ◌∙◌}
use mathlib.Core.List.{List}
use Prim.Native.Nat.{ℕ}
use Rattle.trace_reader.specs.Reading.{FileRefused}
use Rattle.record_copies.specs.HeldLists.{names_of, times_of, states_of}
use Rattle.trace_laws.proofs.Places.{accepted_unique, accepted_refused}
use Rattle.trace_laws.proofs.Theorems.{TraceOf, Same, exact_accepted, names_of_lem, times_of_lem, states_of_lem}

pub one_trace :
    {file : List ℕ} {k n k' n' : ℕ} (t : TraceOf file k n) (u : TraceOf file k' n') →
    Same t.names t.times t.states n u.names u.times u.states n'
one_trace {file} {k} {n} {k'} {n'} t u =
    let e = accepted_unique (exact_accepted t) (exact_accepted u) in
    record {
      names_same = names_of_lem t ∙ ap (names_of file) e.0 ∙ sym (names_of_lem u);
      times_same = times_of_lem t ∙ (λ i. times_of file (e.0 i) (e.1 i)) ∙ sym (times_of_lem u);
      states_same = states_of_lem t ∙ (λ i. states_of file (e.0 i) (e.1 i)) ∙ sym (states_of_lem u);
      rows_same = e.1;
    }

pub refused_none : {file : List ℕ} {number p k n : ℕ} → FileRefused file number p → TraceOf file k n → ⊥
refused_none f t = accepted_refused (exact_accepted t) f
