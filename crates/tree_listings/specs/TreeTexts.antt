-- Texts of a pattern on a trace: document 01's listing of its answers, and its line of the table, both "of the answers
-- defined above and not of a list handed in"; and what the calls come to that write them for a tree handed in.
--   pattern_listing, totals_line    the texts
--   text_order                     the refusals in their order
--   ListsTree, LinesTree          what the two calls come to
--   Answered, Filling, Holding    what the functions inside ask
-- That result and buffer follow from the input is a law, and that the listing's last line has the pattern's totals.
use Rattle.std.specs.Prelude.{ℕ, ◌≤◌, ◌≡◌, List, ◌∷◌, length}
use Rattle.alf.specs.declared.Rules.{Rules}
use Rattle.alf.specs.declared.Sort.TheVariants as sort
use Rattle.basics.specs.Refusing.{Outcome}
use Rattle.basics.specs.Words.{listed}
use Rattle.basics.specs.Memory.{after, front}
use Rattle.alf.specs.Expressions.{Vector}
use Rattle.alf.specs.Values.{state_at}
use Rattle.alf.specs.Windows.{row_answer}
use Rattle.alf.specs.Traces.{total}
use Rattle.alf.specs.Refusals.{Order, check, bad_code, Comes}
use Rattle.acceptance.specs.Accepted.{Accepted}
use Rattle.judging.specs.Orders.{Rows, order}
use Rattle.matching_calls.specs.Matching.{expression, TreeRows}
use Rattle.figures.specs.Delivering.{line_order}
use Rattle.listing.specs.Listing.{listing}
use Rattle.table_lines.specs.Table.{pattern_line}

-- the listing of a pattern's answers at all rows of a trace of k names
unfoldable pub pattern_listing : Rules → ℕ → List ℕ → List ℕ → Vector → List ℕ
pattern_listing ρ k times states p =
    listing times (listed 0 (length times) (row_answer (state_at ρ k states) p))

-- the line of the table with a pattern's totals on n rows: yes, unknown, no; the pattern stands last as `shown`
unfoldable pub totals_line : Rules → ℕ → ℕ → List ℕ → List ℕ → Vector → List ℕ
totals_line ρ k n states shown p =
    pattern_line shown (total (state_at ρ k states) p n 1) (total (state_at ρ k states) p n 2)
    (total (state_at ρ k states) p n 0) n

-- 18 where the lists do not fit, 10 where the tree is no vector expression, 15, 9
abbrev pub text_order : Rules → Type 0 → ℕ → List ℕ → List ℕ → List ℕ → ℕ → Order
text_order ρ lists names tree states text room =
    order lists (Accepted ρ names sort.Vector tree) (check 15 (bad_code states) ∷ line_order text room)

-- The calls, of so many names and n rows. Done: the text is at the front of the buffer, and its length is told;
-- refused: the buffer is as before.
pub record ListsTree (ρ : Rules) (names n : ℕ) (tree times states out out' : List ℕ) (r : Outcome) : Type 0 where
  pub comes :
      Comes
      (text_order ρ ((length times ≡ n) × Rows names n (length states)) names tree states
      (pattern_listing ρ names times states (expression ρ tree names)) (length out))
      (λ m. m ≡ length (pattern_listing ρ names times states (expression ρ tree names))) r
  pub memory : out' ≡ after (front (pattern_listing ρ names times states (expression ρ tree names)) out) out r

-- the pattern is shown as it is handed in
pub record LinesTree (ρ : Rules) (names n : ℕ) (tree states shown out out' : List ℕ) (r : Outcome) : Type 0 where
  pub comes :
      Comes
      (text_order ρ (Rows names n (length states)) names tree states
      (totals_line ρ names n states shown (expression ρ tree names)) (length out))
      (λ m. m ≡ length (totals_line ρ names n states shown (expression ρ tree names))) r
  pub memory : out' ≡ after (front (totals_line ρ names n states shown (expression ρ tree names)) out) out r

-- For the functions inside: an accepted tree and 1 to 65,535 rows; a list of n entries; a list for all rows there can
-- be.
pub record Answered (ρ : Rules) (names n : ℕ) (tree states : List ℕ) : Type 0 where
  pub asked : TreeRows ρ names n tree states
  pub some : 1 ≤ n

pub record Filling (ρ : Rules) (names n : ℕ) (tree states answers : List ℕ) : Type 0 where
  pub answered : Answered ρ names n tree states
  pub size : length answers ≡ n

pub record Holding (ρ : Rules) (names n : ℕ) (tree states answers : List ℕ) : Type 0 where
  pub answered : Answered ρ names n tree states
  pub size : length answers ≡ 65535
