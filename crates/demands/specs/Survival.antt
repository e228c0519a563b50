-- Demand 2, "expression and trace survive writing and reading": of a trace file and a text that is asked of it, for
-- either sort. Each field says what the results are that the calls' contracts allow, and so that none is refused.
--   text_of_lem, file_again    the text of the expression, the file that is written
--   Survives             the file read and written, the text read and written
use Rattle.std.specs.Prelude.{Result, Err, Ok}
use Rattle.trace_reader.specs.Reading.{size}
use Rattle.std.specs.Prelude.{ℕ, ◌+◌, ◌*◌, ◌<◌, ◌≤◌, ◌≡◌, List, length, take}
use Rattle.basics.specs.Refusing.{Outcome}
use Rattle.basics.specs.Refusing.{refusal}
use Rattle.basics.specs.Memory.{front}
use Rattle.trace_reader.specs.Reading.{Reading}
use Rattle.trace_reader.specs.Reading.{Reads}
use Rattle.trace_format.specs.Format.{file_of}
use Rattle.trace_writer.specs.Writing as trace_writing
use Rattle.trace_laws.specs.Needless.{needless_rows}
use Rattle.basics.specs.declared.Refusal.{Refusal}
use Rattle.reader.specs.declared.Read as texts
use Rattle.reader.specs.Reads.{made}
use Rattle.reader.specs.Reading.{ReadsText}
use Rattle.writer.specs.Trees.{text as text_of}
use Rattle.writer.specs.Writing.{Writes}
use Rattle.demands.specs.Questions.{Asked, names_of, tree_of}
use Rattle.alf.specs.Expressions.{Expression}
use Rattle.alf.specs.declared.Sort.{Sort}

-- Reading and writing, for either sort.
module _ {A : Type 0} {into : A → Expression} {sort : Sort} {file text : List ℕ}
    (q : Asked into sort file text) where
  -- the text of the expression, with only needed brackets
  abbrev pub text_of_lem : List ℕ
  text_of_lem = text_of q.names (into q.pattern)

  -- the file that the writer makes of the trace
  abbrev pub file_again : List ℕ
  file_again = file_of q.names q.times q.states q.rows

  pub record Survives : Type 0 where
    -- the file is read as its trace, given room for it
    pub file_read : (n₀ t₀ s₀ n₁ t₁ s₁ : List ℕ) (r : Reading)
        → length q.names ≤ length n₀ → q.rows ≤ length t₀ → q.rows * names_of q ≤ length s₀
        → Reads file n₀ t₀ s₀ n₁ t₁ s₁ r
        → (r ≡ Ok (size (names_of q) q.rows)) × (n₁ ≡ front q.names n₀) × (t₁ ≡ front q.times t₀)
        × (s₁ ≡ front q.states s₀)
    -- the trace is written as a file of its own, given room for it: as that file again, if that has no needless `RL`,
    -- and else as one that is shorter by four bytes for each of them
    pub file_written : (out out' : List ℕ) (r : Outcome) → length file_again ≤ length out
        → trace_writing.Writes q.names q.times q.states q.rows out out' r
        → (r ≡ Ok (length file_again)) × (out' ≡ front file_again out)
    pub file_same : needless_rows file (names_of q) q.rows ≡ 0 → file_again ≡ file
    pub file_shorter : length file ≡ length file_again + 4 * needless_rows file (names_of q) q.rows
    -- a text of at most 4,096 bytes is read as its expression
    pub text_read : (r : Result texts.Read Refusal) → length text ≤ 4096 → ReadsText q.rules q.names text sort r
        → r ≡ Ok (made (into q.pattern))
    -- the expression is written, given room, where its text has at most 4,096 bytes; else that is refused
    pub text_written : (out out' : List ℕ) (r : Outcome) → length text_of_lem ≤ 4096
        → length text_of_lem ≤ length out → Writes q.names (tree_of q) sort out out' r
        → (r ≡ Ok (length text_of_lem)) × (out' ≡ front text_of_lem out)
    pub text_too_long : (out out' : List ℕ) (r : Outcome) → 4096 < length text_of_lem
        → Writes q.names (tree_of q) sort out out' r → (r ≡ Err (refusal 1 4096)) × (out' ≡ out)
    -- what is written is read again as it was
    pub text_survives : (out out' : List ℕ) (m : ℕ) (r : Result texts.Read Refusal)
        → Writes q.names (tree_of q) sort out out' (Ok m) → ReadsText q.rules q.names (take m out') sort r
        → r ≡ Ok (made (into q.pattern))
