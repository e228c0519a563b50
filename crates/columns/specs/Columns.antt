-- Columns: the answers of tests on the events from some row on, one after the other. The states of an expression, and
-- what they ask and promise in a list, are passed on.
--   table_at, TablesAsked, Tables        the table of an edge, by the states before and after; those of some edges
--   name_from                            the states of a name, from some row on
--   looked_at                            what a table has for a state and the next
--   NameAsked, SpeltAsked, ColumnAsked, Column     a column of a name, of the states in a list, of an operand
--   ColumnsAsked, Columns               the columns of some operands, 1,040 entries for each
use Rattle.std.specs.Prelude.{ℕ, ◌+◌, ◌*◌, ◌<◌, ◌≤◌, ◌/◌, ◌%◌, ◌≡◌, List, length, get_or}
use Rattle.alf.specs.declared.Rules.{Rules}
use Rattle.alf.specs.Windows.{edge_on}
use Rattle.alf.specs.Decoder.{edge_at}
use Rattle.trees.specs.Parts.{EndsBoolean}
use Rattle.evaluator.specs.Rows.{Within}
pub use Rattle.state_columns.specs.Spelt.{states_from, SpellAsked, Spelt}
use Rattle.columns.specs.Passes.{Over}

-- entry 8 x + y of the table of edge k: the edge on states x and y
abbrev pub table_at : ℕ → ℕ → ℕ
table_at k = λ q. edge_on (edge_at k) (q / 8) (q % 8)

pub record TablesAsked (edges : List ℕ) (n : ℕ) (tables : List ℕ) : Type 0 where
  pub some : n ≤ length edges
  pub room : n * 64 ≤ length tables
  pub few : n ≤ 64

pub record Tables (edges : List ℕ) (n : ℕ) (tables : List ℕ) : Type 0 where
  pub at : (c q : ℕ) → c < n → q < 64 → get_or tables (c * 64 + q) 0 ≡ table_at (get_or edges c 0) q

-- the states of a name, of which the first is entry `at` of the states
abbrev pub name_from : List ℕ → ℕ → ℕ → ℕ → ℕ
name_from states names at = λ i. get_or states (at + i * names) 0

-- what the table from `base` on has for the states at i and at i + 1
abbrev pub looked_at : List ℕ → ℕ → (ℕ → ℕ) → ℕ → ℕ
looked_at tables base s = λ i. get_or tables (base + (8 * s i + s (i + 1))) 0

-- n answers, for n + 1 states one after the other, of a name and of states in a list
pub record NameAsked (tables : List ℕ) (base : ℕ) (states : List ℕ) (names at n : ℕ) (cols : List ℕ) (o : ℕ)
    : Type 0 where
  pub table : base + 64 ≤ length tables
  pub there : at + n * names < length states
  pub codes : (i : ℕ) → i < length states → get_or states i 0 < 8
  pub room : o + n ≤ length cols

pub record SpeltAsked (tables : List ℕ) (base : ℕ) (spelt : List ℕ) (n : ℕ) (cols : List ℕ) (o : ℕ) : Type 0 where
  pub table : base + 64 ≤ length tables
  pub wide : n ≤ 1040
  pub codes : (i : ℕ) → i < n + 1 → get_or spelt i 0 < 8
  pub room : o + n ≤ length cols

pub record ColumnAsked (tree : List ℕ) (names : ℕ) (states : List ℕ) (end lo n : ℕ) (tables : List ℕ) (base : ℕ)
    (cols : List ℕ) (o : ℕ) : Type 0 where
  pub ends : EndsBoolean tree names end
  pub rows : (i : ℕ) → i < n + 1 → Within states names (lo + i)
  pub few : lo + n < 65535
  pub wide : n ≤ 1040
  pub table : base + 64 ≤ length tables
  pub room : o + n ≤ length cols

-- its answers are written, and the states that they come from are codes
pub record Column (ρ : Rules) (tree : List ℕ) (names : ℕ) (states : List ℕ) (end lo n : ℕ) (tables : List ℕ) (base : ℕ)
    (cols : List ℕ) (o : ℕ) (cols' : List ℕ) : Type 0 where
  pub over : Over cols o n (looked_at tables base (states_from ρ tree names states end lo)) cols'
  pub codes : (i : ℕ) → i < n + 1 → states_from ρ tree names states end lo i < 8

-- `many` operands
pub record ColumnsAsked (tree : List ℕ) (names : ℕ) (states ends : List ℕ) (many lo n : ℕ) (tables cols : List ℕ)
    : Type 0 where
  pub some : many ≤ length ends
  pub operands : (c : ℕ) → c < many → EndsBoolean tree names (get_or ends c 0)
  pub rows : (i : ℕ) → i < n + 1 → Within states names (lo + i)
  pub few : lo + n < 65535
  pub wide : n ≤ 1040
  pub most : many ≤ 64
  pub tabled : many * 64 ≤ length tables
  pub room : many * 1040 ≤ length cols

pub record Columns (ρ : Rules) (tree : List ℕ) (names : ℕ) (states ends : List ℕ) (many lo n : ℕ) (tables cols : List ℕ)
    : Type 0 where
  pub at : (c i : ℕ) → c < many → i < n
      → get_or cols (c * 1040 + i) 0 ≡ looked_at tables (c * 64) (states_from ρ tree names states (get_or ends c 0) lo) i
  pub codes : (c i : ℕ) → c < many → i < n + 1 → states_from ρ tree names states (get_or ends c 0) lo i < 8
