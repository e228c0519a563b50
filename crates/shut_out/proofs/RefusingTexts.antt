-- Shut out: "refusing everything (the table says 'exactly when')", for the two calls that read.
--   read_passes         a text of at most 4,096 bytes that gives an expression: no row of the order holds
--   read_expression_lem     a text of at most 4,096 bytes that gives an expression is not refused; and the other two
--   file_not_refused    a file that is the bytes of a trace, with room for it, is not refused
--   file_not_accepted   a file that is the bytes of no trace is not read
--   file_other          where the first bad record is refused, or room, this is the refusal, and nothing is written
use Rattle.std.specs.Prelude.{Result, Err, Ok}
use Rattle.trace_reader.specs.Reading.{size}
use Prim.Native.Nat.{ℕ, ◌*◌, ◌≤◌}
use mathlib.Core.Path.{◌≡◌, refl, sym, ap}
use mathlib.Core.Bool.{Bool, true, false}
use mathlib.Core.Logic.{◌⊎◌}
use mathlib.Core.List.{List}
use lib.ListN.{length}
use Rattle.alf.specs.Names.{names_in}
use Rattle.basics.specs.declared.Refusal.{Refusal}
use Rattle.alf.specs.declared.Rules.{Rules}
use Rattle.alf.specs.declared.Sort.{Sort}
use Rattle.alf.specs.Expressions.{Expression}
use Rattle.alf.specs.Refusals.{Passed}
use Rattle.basics.proofs.Bools.{never}
use Rattle.reader.specs.declared.Read.{Read}
use Rattle.reader.specs.Reads.{made}
use Rattle.reader.specs.Reading as texts
use Rattle.reader.specs.Reading.{read_order, Gives, ReadsText}
use Rattle.reader.proofs.Unique.{read_unique, gives_read, read_complete}
use Rattle.trace_reader.specs.Reading.{Reading}
use Rattle.trace_format.specs.Format.{Trace, file_of}
use Rattle.trace_reader.specs.Reading.{FileRefused, RoomRefused, Reads}
use Rattle.trace_laws.proofs.Theorems.{TraceOf, OneReading, got_trace}
use Rattle.trace_laws.proofs.RoundTrips.{reads_unique, read_write}
use Rattle.basics.specs.Refusing.{refusal}
use Rattle.shut_out.specs.Reasons.{Held, IsRefusal, ExactlyIn}
use Rattle.shut_out.proofs.Reasons.{passed_held, None, Three}
use Rattle.shut_out.proofs.Refusing.{GoodNames, names_pass}

-- A text.
module _ (ρ : Rules) (names text : List ℕ) (sort : Sort) where
  pub record Readable : Type 0 where
    pub names_good : GoodNames names
    pub short : length text ≤ 4096
    pub expression : Expression
    pub given : Gives ρ names text sort expression

  passed_read : {r : Read} → ReadsText ρ names text sort (Ok r) → Passed (read_order ρ names text sort)
  passed_read (texts.read a g) = a

  pub read_passes : Readable → Passed (read_order ρ names text sort)
  read_passes g = passed_read (gives_read (names_pass names g.names_good) g.short g.given)

  not_refused : (r : Refusal) → Readable → ReadsText ρ names text sort (Err r) → ⊥
  not_refused r g w = let e = read_complete (names_pass names g.names_good) g.short g.given w in absurd cc

  only_refused : Held (read_order ρ names text sort) → (x : Result Read Refusal) → ReadsText ρ names text sort x
      → IsRefusal Err x
  only_refused h x (texts.refused r a) = (r, refl)
  only_refused h x (texts.read a g) = absurd (passed_held (read_order ρ names text sort) a h)

  pub read_expression_lem : ExactlyIn {M = None} text Readable (read_order ρ names text sort) Err
      (λ r m. ReadsText ρ names text sort r) tt
  read_expression_lem =
      record {
        no_refusal = λ g r m w. not_refused r g w;
        no_acceptance = λ h x m w. only_refused h x w;
        no_other = λ r h x m w. (read_unique w (texts.refused r h), refl);
      }

-- A file.
told : Reading → Bool
told (Ok s) = true
told (Err r) = false

module _ {names times states : List ℕ} {n : ℕ} (t : Trace names times states n) (n₀ t₀ s₀ : List ℕ) where
  pub file_not_refused : length names ≤ length n₀ → n ≤ length t₀ → n * names_in names ≤ length s₀
      → (r : Refusal) (m : Three)
      → Reads (file_of names times states n) n₀ t₀ s₀ m.0 m.1 m.2 (Err r) → ⊥
  unfolding told
  file_not_refused a b c r m w = never (ap told (read_write t n₀ t₀ s₀ (Err r) a b c w).answer)

module _ (bytes n₀ t₀ s₀ : List ℕ) where
  pub file_not_accepted : ((k n : ℕ) → TraceOf bytes k n → ⊥) → (k n : ℕ) (m : Three)
      → Reads bytes n₀ t₀ s₀ m.0 m.1 m.2 (Ok (size k n)) → ⊥
  unfolding Reads
  file_not_accepted none k n m w = none k n (got_trace w)

  pub file_other : (n p : ℕ) → FileRefused bytes n p ⊎ RoomRefused bytes n₀ t₀ s₀ n p
      → (x : Reading) (m : Three) → Reads bytes n₀ t₀ s₀ m.0 m.1 m.2 x
      → OneReading x m.0 m.1 m.2 (Err (refusal n p)) n₀ t₀ s₀
  unfolding Reads
  file_other n p h x m w =
      reads_unique bytes n₀ t₀ s₀ x (Err (refusal n p)) w
      (h, refl, record { names_kept = refl; times_kept = refl; states_kept = refl })
