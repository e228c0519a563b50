-- A file that was read, written again.
--   same_file     a file without a needless `RL` is the writer's file of its trace
--   shorter       the writer's file of the trace is shorter by four bytes for each needless `RL`
--   write_read    what was read from a file without a needless `RL`, written again, gives the same bytes
--   write_short   what was read from any file, written again, gives the writer's file of the same trace
use Rattle.std.specs.Prelude.{Ok, Err}
use Rattle.std.specs.Prelude.{if◌then◌else◌}
use mathlib.Core.Path.{◌≡◌, refl, ◌∙◌}
use mathlib.Core.Bool.{◌&&◌}
use mathlib.Core.List.{List}
use mathlib.Core.Logic.{◌⊎◌, inl, inr}
use Prim.Native.Nat.{ℕ, zero, suc, ◌+◌, ◌*◌, ◌^◌, ◌≤◌, ◌<◌}
use native.Mathlib.Omega.{arith}
use lib.Dec.{eqb, ltb}
use lib.ListN.{length, length-append}
use borrow.Author.Tests.{lt-ltb, le-ltb}
use Rattle.basics.specs.Memory.{front}
use Rattle.basics.specs.Refusing.{Outcome}
use Rattle.basics.proofs.Bools.{below?}
use Rattle.alf.specs.Names.{names_in}
use Rattle.trace_format.specs.Format.{Fits, Fitting, Trace, name_records, row_records, end_record}
use Rattle.trace_format.specs.Format.{fewest, fewest_of, file_in, file_of}
use Rattle.trace_format.specs.Records.{width_in, time_in}
use Rattle.trace_format.proofs.Numbers.{bytes_length}
use Rattle.trace_reader.specs.Reading.{Got}
use Rattle.trace_writer.specs.Putting.{rows_size}
use Rattle.trace_writer.specs.Writing.{Writes}
use Rattle.trace_writer.proofs.Putting.{rows_length}
use Rattle.trace_laws.specs.Needless.{needless, needless_rows}
use Rattle.trace_laws.proofs.BytesAccepted.{held_width, time_held}
use Rattle.trace_laws.proofs.Widths.{fewest_4, fewest_8}
use Rattle.trace_laws.proofs.RoundTrips.{OneWriting, writes_bytes}

-- a width that fits is the fewest, and four more where it is needless
spare : (w t : ℕ) → Fits w t → w ≡ fewest t + 4 * needless w t
unfolding needless
spare w t f = go f.kind (below? t 4294967296)
  where
    go : (w ≡ 4) ⊎ (w ≡ 8) → (t < 4294967296) ⊎ (4294967296 ≤ t)
        → w ≡ fewest t + 4 * (if eqb w 8 && ltb t 4294967296 then 1 else 0)
    go (inl e) (inl h) = rw (e, fewest_4 t h)
    go (inl e) (inr h) = let s : t < 256 ^ 4 = rw e at f.small in absurd (omega arith)
    go (inr e) (inl h) = rw (e, fewest_4 t h, lt-ltb t 4294967296 h)
    go (inr e) (inr h) = rw (e, fewest_8 t h, le-ltb t 4294967296 h)

module _ {names times states : List ℕ} {n : ℕ} (t : Trace names times states n) (widths : ℕ → ℕ)
    (fitting : Fitting widths times n) where
  abbrev k : ℕ
  k = names_in names

  abbrev file : List ℕ
  file = file_in widths names times states n

  row_spare : (r : ℕ) → r < n
      → widths r ≡ fewest_of times r + 4 * needless (width_in file k r) (time_in file k r)
  row_spare r h = rw (held_width t widths fitting r h, time_held t widths fitting r h) (spare _ _ (fitting r h))

  rows_spare : (r : ℕ) → r ≤ n → rows_size k widths r ≡ rows_size k (fewest_of times) r + 4 * needless_rows file k r
  unfolding rows_size needless_rows
  rows_spare zero h = refl
  rows_spare (suc r) h = omega (arith, rows_spare r (omega arith), row_spare r h)

  file_size : (ws : ℕ → ℕ) → length (file_in ws names times states n)
      ≡ length (name_records names k) + rows_size k ws n + 6
  unfolding file_in end_record
  file_size ws =
      rw (
        length-append,
        length-append,
        rows_length k ws times states n t.lists.states_all n (omega arith),
        bytes_length 4 n,
      )
      (omega arith)

  pub shorter : length file ≡ length (file_of names times states n) + 4 * needless_rows file k n
  shorter = omega (arith, file_size widths, file_size (fewest_of times), rows_spare n (omega arith))

  none_needless : (r m : ℕ) → needless_rows file k m ≡ 0 → r < m
      → needless (width_in file k r) (time_in file k r) ≡ 0
  unfolding needless_rows
  none_needless r zero e h = absurd (omega arith)
  none_needless r (suc m) e h = go (below? r m) (none_needless r m (omega arith))
    where
      go : (r < m) ⊎ (m ≤ r) → (r < m → needless (width_in file k r) (time_in file k r) ≡ 0)
          → needless (width_in file k r) (time_in file k r) ≡ 0
      go (inl l) ih = ih l
      go (inr l) ih = let s : r ≡ m = omega arith in rw s (omega arith)

  module _ (none : needless_rows file k n ≡ 0) where
    rows_same : (r : ℕ) → r ≤ n → row_records k widths times states r ≡ row_records k (fewest_of times) times states r
    unfolding row_records
    rows_same zero h = refl
    rows_same (suc r) h =
        let e : widths r ≡ fewest_of times r = omega (arith, row_spare r h, none_needless r n none h) in
        rw (rows_same r (omega arith), e)

    pub same_file : file ≡ file_of names times states n
    unfolding file_in
    same_file = rw (rows_same n (omega arith))

-- a file that was read
module _ {file n₀ t₀ s₀ n₁ t₁ s₁ : List ℕ} {k n : ℕ} (g : Got file n₀ t₀ s₀ k n n₁ t₁ s₁) where
  abbrev again : List ℕ
  again = file_of g.ns g.ts g.ss n

  pub again_shorter : length file ≡ length again + 4 * needless_rows file k n
  again_shorter = rw (g.bytes, g.named) (shorter g.trace g.widths g.fitting)

  pub again_same : needless_rows file k n ≡ 0 → file ≡ again
  again_same none =
      g.bytes ∙ same_file g.trace g.widths g.fitting (rw (g.bytes, g.named) at none)

  pub write_short :
      {out out' : List ℕ} (r : Outcome) →
      length again ≤ length out →
      Writes g.ns g.ts g.ss n out out' r →
      OneWriting r out' (Ok (length again)) (front again out)
  write_short r h w = writes_bytes g.trace r h w

  pub write_read :
      needless_rows file k n ≡ 0 →
      {out out' : List ℕ} (r : Outcome) →
      length file ≤ length out →
      Writes g.ns g.ts g.ss n out out' r →
      OneWriting r out' (Ok (length file)) (front file out)
  write_read none r h w = rw (again_same none) (write_short r (rw (again_same none) at h) w)
