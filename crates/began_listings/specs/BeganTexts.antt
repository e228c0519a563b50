-- Document 02, [12]: the listing of a pattern's answers on a trace with where each match began, and what the call
-- comes to that writes it for a tree handed in.
--   pattern_began   the text
--   began_order     the refusals in their order
--   ListsBegan     what the call comes to
-- That result and buffer follow from the input is a law, and that the first two columns are those of document 01's
-- listing.
use Rattle.std.specs.Prelude.{ℕ, ◌≡◌, List, ◌++◌, length}
use Rattle.basics.specs.Refusing.{Outcome}
use Rattle.basics.specs.Memory.{after, front}
use Rattle.alf.specs.declared.Rules.{Rules}
use Rattle.alf.specs.Expressions.{Vector}
use Rattle.alf.specs.Values.{state_at}
use Rattle.alf.specs.Windows.{row_answer}
use Rattle.alf.specs.Alternatives.{alternatives}
use Rattle.alf.specs.Beginnings.{began}
use Rattle.alf.specs.Refusals.{Order, Comes}
use Rattle.judging.specs.TimedOrders.{timed_order}
use Rattle.matching_calls.specs.Matching.{expression}
use Rattle.figures.specs.Delivering.{line_order}
use Rattle.began_lines.specs.BeganListing.{began_listing}

-- the listing of a pattern's answers at all rows of a trace of k names
unfoldable pub pattern_began : Rules → ℕ → List ℕ → List ℕ → Vector → List ℕ
pattern_began ρ k times states p =
    began_listing times (row_answer (state_at ρ k states) p) (began (state_at ρ k states) times (alternatives p))

-- 18 where the lists do not fit, 10 where the tree is no vector expression, 15, 13, 9
abbrev pub began_order : Rules → ℕ → ℕ → List ℕ → List ℕ → List ℕ → List ℕ → ℕ → Order
began_order ρ names n tree times states text room =
    timed_order ρ names n (length times ≡ n) tree times states ++ line_order text room

-- Of so many names and n rows. Done: the text is at the front of the buffer, and its length is told; refused: the
-- buffer is as before.
pub record ListsBegan (ρ : Rules) (names n : ℕ) (tree times states out out' : List ℕ) (r : Outcome) : Type 0 where
  pub comes :
      Comes
      (began_order ρ names n tree times states (pattern_began ρ names times states (expression ρ tree names))
      (length out))
      (λ m. m ≡ length (pattern_began ρ names times states (expression ρ tree names))) r
  pub memory : out' ≡ after (front (pattern_began ρ names times states (expression ρ tree names)) out) out r
