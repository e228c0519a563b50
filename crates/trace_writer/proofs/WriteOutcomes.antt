-- What writing comes to: what the check of the trace refuses, 9, or the file in front of the buffer.
-- Main names: writes_refused, writes_9, file_written.
use Rattle.std.specs.Prelude.{Err, Ok}
use mathlib.Core.Path.{◌≡◌, refl, sym}
use mathlib.Core.List.{List}
use mathlib.Core.Logic.{inl}
use Prim.Native.Nat.{ℕ, ◌+◌, ◌≤◌, ◌<◌}
use native.Mathlib.Omega.{arith}
use lib.ListN.{length, length-append}
use Rattle.alf.specs.Names.{names_in}
use Rattle.basics.specs.declared.Refusal.{Refusal}
use Rattle.basics.specs.Refusing.{Outcome}
use Rattle.alf.specs.Refusals.{RefusedWith, RefusedBy, Passed, Comes}
use Rattle.alf.proofs.Orders.{Is, plainly, by_first, refused_then, passed_both}
use Rattle.trace_format.specs.Format.{name_records, row_records, end_record, fewest_of, file_in, file_of}
use Rattle.trace_format.proofs.Numbers.{bytes_length}
use Rattle.trace_writer.specs.Writing.{lists_order, write_order, Writes}
use Rattle.basics.specs.Memory.{Put, after}
use Rattle.basics.proofs.PartByPart.{put_then, put_front, put_length}
use Rattle.trace_writer.specs.Putting.{SlotsLent, SlotsFit, NamesSize, TimesLent}
use Rattle.trace_writer.specs.Putting.{rows_size, RowsSize, RowsFit, Good}
use Rattle.trace_writer.proofs.Putting.{rows_length}
use Rattle.trace_writer.proofs.TraceChecks.{rows_lent}

module _ {names times states : List ℕ} {n : ℕ} (out : List ℕ) where
  stopped :
      {o : Outcome} {r : Refusal} →
      o ≡ Err r →
      RefusedBy (write_order names times states n (length out)) r →
      Writes names times states n out out o
  unfolding Comes after
  stopped e h = rw e (record { outcome = h; memory = refl })

  -- a trace that is refused before there is talk of room
  pub writes_refused :
      {o : Outcome} {r : Refusal} (made : ℕ → Type 0) →
      Comes (lists_order names times states n) made o →
      o ≡ Err r →
      Writes names times states n out out (Err r)
  unfolding Comes
  writes_refused {o} {r} made c e =
      stopped refl (by_first (lists_order names times states n) _ (rw e at c))

-- a good trace
module _ {names times states : List ℕ} {n k : ℕ} (g : Good names times states n k) where
  few_names : k ≤ 32
  few_names = rw g.named.counted g.named.all.slots.few

  few_rows : n ≤ 65535
  few_rows = g.named.all.lists.few

  pub names_lent : SlotsLent names k
  names_lent = record { there = rw g.named.counted (omega arith); few = few_names }

  pub times_lent : TimesLent k times n
  times_lent = record { all = g.named.all.lists.times_all; few = few_rows; few_names = few_names }

  rows_bytes : length (row_records k (fewest_of times) times states n) ≡ rows_size k (fewest_of times) n
  rows_bytes = rows_length k (fewest_of times) times states n (rows_lent g.named).states_all n (omega arith)

  file_length :
      length (file_of names times states n) ≡ length (name_records names k) + rows_size k (fewest_of times) n + 6
  unfolding file_in end_record
  file_length =
      let e : names_in names ≡ k = sym g.named.counted in
      rw (e, length-append, length-append, rows_bytes, bytes_length 4 n) (omega arith)

  pub sizes_small : {s t : ℕ} → NamesSize names k s → RowsSize k times n t → s + t + 6 ≤ 2753600
  sizes_small size rows = omega (arith, size.few, rows.few, few_names, few_rows)

  module _ (out : List ℕ) {s t : ℕ} (size : NamesSize names k s) (rows : RowsSize k times n t) where
    all_size : length (file_of names times states n) ≡ s + t + 6
    all_size = omega (arith, file_length, size.is, rows.is)

    pub writes_9 :
        {o : Outcome} →
        Is o 9 (s + t + 6) →
        length out < s + t + 6 →
        Writes names times states n out out o
    unfolding RefusedWith
    writes_9 {o} e h =
        stopped out e
        (plainly _ 9 (s + t + 6)
        (refused_then (lists_order names times states n) _ 9 (s + t + 6) g.passed
        (inl (refl, record { given = omega (arith, all_size); there = sym all_size }))))

    module _ (room : s + t + 6 ≤ length out) where
      pub slots_fit : SlotsFit names k out
      slots_fit = record { there = names_lent.there; room = omega (arith, size.is) }

      module _ {out₁ : List ℕ} {at : ℕ} (names_put : Put out 0 (name_records names k) out₁ at) where
        pub rows_fit : RowsFit k times states n out₁ at
        rows_fit =
            record {
              lent = rows_lent g.named;
              room = omega (arith, size.is, rows.is, names_put.next, put_length names_put);
            }

        module _ {out₂ : List ℕ} {end : ℕ}
            (rows_put : Put out₁ at (row_records k (fewest_of times) times states n) out₂ end) where
          pub end_fits : end + 6 ≤ length out₂
          end_fits =
              omega (
                arith,
                size.is,
                rows.is,
                names_put.next,
                rows_put.next,
                rows_bytes,
                put_length names_put,
                put_length rows_put,
              )

          pub file_written : {out₃ : List ℕ} {all : ℕ} → Put out₂ end (end_record n) out₃ all
              → Writes names times states n out out₃ (Ok all)
          unfolding Comes Passed after file_in
          file_written {out₃} {all} end_put =
              let e : names_in names ≡ k = sym g.named.counted in
              let file : Put out 0 (file_of names times states n) out₃ all =
              rw e (put_then names_put (put_then rows_put end_put))
              in
              record {
                outcome = (
                  passed_both (lists_order names times states n) _ g.passed
                      ((λ p a. omega (arith, a.given, all_size)), tt),
                  omega (arith, file.next),
                );
                memory = put_front file (omega (arith, all_size));
              }
